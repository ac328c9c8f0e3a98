use Rattle.std.proofs.Common.{arith}
use Rattle.std.proofs.lemmas.Int.{ints, clamps}
use Rattle.lf_occupancy.proofs.Parts.{part_same}
use Rattle.lf_occupancy.proofs.strip_marks.part_of.Goals as goal

pub returns : goal.returns
returns c =
    let a = c.max.ensures.value in
    let b = c.max-2.ensures.value in
    let d = c.min.ensures.value in
    let e = c.min-2.ensures.value in
    part_same c.args.a.now c.args.b.now _ (omega (arith, ints, clamps, a)) (omega (arith, ints, clamps, b)) (omega (arith, ints, clamps, d))
    (omega (arith, ints, clamps, e))
