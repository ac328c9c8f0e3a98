use Rattle.std.proofs.Common.{arith}
use Rattle.std.proofs.lemmas.Int.{ints}
use Rattle.lf_occupancy.proofs.apart.lies_inside.Goals as goal

pub returns : goal.returns
returns c = λ e.
    let left = c.if-rect-area.false in
    let right = c.if-area-rect.false in
    let lower = c.if-rect-area-2.false in
    let upper = c.if-area-rect-2.false in
    record { left = omega (arith, ints, left); lower = omega (arith, ints, lower); right = omega (arith, ints, right); upper = omega (arith, ints, upper) }
