use Rattle.std.proofs.Common.{arith}
use Rattle.std.proofs.lemmas.Int.{ints, clamps}
use Rattle.lf_segments.proofs.strips.lowest_near.Goals as goal

pub returns : goal.returns
returns c =
    let is = c.max.ensures.value in
    let high = c.requires.high in
    let small = c.requires.small in
    λ y low under. omega (arith, ints, clamps, is, low, under, high, small)
