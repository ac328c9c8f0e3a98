use Rattle.std.proofs.Common.{arith}
use Rattle.std.proofs.lemmas.Int.{ints, clamps}
use Rattle.lf_occupancy.proofs.Tallying.{hull_same}
use Rattle.lf_occupancy.proofs.strip_counts.hull_of.Goals as goal

pub returns : goal.returns
returns c =
    let a = c.min.ensures.value in
    let b = c.min-2.ensures.value in
    let d = c.max.ensures.value in
    let e = c.max-2.ensures.value in
    hull_same c.args.shift.now _ (omega (arith, ints, clamps, a)) (omega (arith, ints, clamps, b)) (omega (arith, ints, clamps, d))
    (omega (arith, ints, clamps, e))
