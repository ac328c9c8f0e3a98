use Rattle.std.proofs.Common.{◌≡◌, ◌+ℤ◌, w64, to_z, of_z, refl, arith}
use Rattle.std.proofs.lemmas.Int.{ints}
use Rattle.lf_def.specs.Ranges.{IsRect}
use Rattle.lf_wire_nets.proofs.bound_terms.middle_of_shape.Goals as goal

pub returns-in-Some-clause-is : goal.returns-in-Some-clause-is
returns-in-Some-clause-is c =
    let rect = c.in-Some.rect in
    let inside : IsRect rect = rw c.in-Some.is at c.requires in
    let x : to_z w64 (of_z w64 (to_z w64 (of_z w64 rect.x1) +ℤ to_z w64 (of_z w64 rect.x2))) ≡ rect.x1 +ℤ rect.x2 =
    omega (arith, ints, inside.x1.low, inside.x1.high, inside.x2.low, inside.x2.high) in
    let y : to_z w64 (of_z w64 (to_z w64 (of_z w64 rect.y1) +ℤ to_z w64 (of_z w64 rect.y2))) ≡ rect.y1 +ℤ rect.y2 =
    omega (arith, ints, inside.y1.low, inside.y1.high, inside.y2.low, inside.y2.high) in
    rw (c.in-Some.is, x, y) refl
