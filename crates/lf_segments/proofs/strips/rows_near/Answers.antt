use Rattle.std.proofs.Common.{◌≡◌, ℤ, ◌≤ℤ◌, arith, subst, sym, to_z, of_z, w64}
use Rattle.std.proofs.lemmas.Int.{ints}
use Rattle.lf_segments.specs.RowsByY.{IsRunBetween}
use Rattle.lf_segments.proofs.strips.rows_near.Goals as goal

pub returns : goal.returns
returns c =
    let y2 = c.args.rect.now.y2 in
    let from : ℤ = to_z w64 (of_z w64 c.lowest_near.result) in
    let lowest : from ≡ c.lowest_near.result = omega (arith, ints) in
    let highest : to_z w64 (of_z w64 y2) ≡ y2 = omega (arith, ints) in
    record {
      from = from;
      part = subst (λ (to : ℤ). IsRunBetween c.args.rows.now from to c.between.result.now) highest c.between.ensures;
      reach = λ y low under. subst (λ (v : ℤ). v ≤ℤ y) (sym lowest) (c.lowest_near.ensures y low under);
    }
