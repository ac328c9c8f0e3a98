use Rattle.std.proofs.Common.{◌-◌, ◌≤ℤ◌, ◌<ℤ◌, length, take, drop}
use Rattle.lf_units.proofs.Lists.{rest_from}
use Rattle.lf_segments.proofs.HeightLemmas.{run_by, rest_holds}
use Rattle.lf_segments.proofs.rows_by_y.run_between.Goals as goal

pub returns : goal.returns
returns c =
    let xs = c.args.entries.now in
    let from = c.args.from.now in
    let to = c.args.to.now in
    let f = c.count_below.result in
    let ys = take (length xs - f) (drop f xs) in
    let same = rest_from xs f in
    run_by (λ v. v <ℤ from) (λ v. (from ≤ℤ v) × (v <ℤ to)) (λ v. to ≤ℤ v) xs ys f c.count_low.result c.count_below.ensures.within same
    c.count_below.ensures.below
    (λ k d less within. (rest_holds (λ v. from ≤ℤ v) xs ys f same c.count_below.ensures.rest k d within, c.count_low.ensures.below k d less))
    c.count_low.ensures.rest
