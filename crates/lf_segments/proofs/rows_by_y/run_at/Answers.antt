use Rattle.std.proofs.Common.{◌≡◌, ◌-◌, ◌≤ℤ◌, ◌<ℤ◌, length, take, drop}
use Rattle.lf_units.proofs.Lists.{rest_from}
use Rattle.lf_segments.proofs.HeightLemmas.{run_by, rest_holds, exactly}
use Rattle.lf_segments.proofs.rows_by_y.run_at.Goals as goal

pub returns : goal.returns
returns c =
    let xs = c.args.entries.now in
    let y = c.args.y.now in
    let f = c.count_below.result in
    let ys = take (length xs - f) (drop f xs) in
    let same = rest_from xs f in
    run_by (λ v. v <ℤ y) (λ v. v ≡ y) (λ v. y <ℤ v) xs ys f c.count_up_to.result c.count_below.ensures.within same c.count_below.ensures.below
    (λ k d less within. exactly _ _ (c.count_up_to.ensures.up_to k d less) (rest_holds (λ v. y ≤ℤ v) xs ys f same c.count_below.ensures.rest k d within))
    c.count_up_to.ensures.rest
