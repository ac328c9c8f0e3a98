use Rattle.std.proofs.Common.{arith}
use Rattle.std.proofs.lemmas.Int.{ints}
use Rattle.lf_wire_length.proofs.TurnLemmas.{IsNear, same_half_point, turned_near}
use Rattle.lf_wire_length.proofs.points.point_of_cell_pin.Goals as goal

pub returns-clause-is : goal.returns-clause-is
returns-clause-is c =
    rw (← c.turn-turned.ensures.is) (same_half_point _ _ (omega (arith, ints)) (omega (arith, ints)))

pub returns-clause-of_macro : goal.returns-clause-of_macro
returns-clause-of_macro c = λ h.
    let near : IsNear c.turn-turned.result = rw c.turn-turned.ensures.is (turned_near c.args.place.now.orient c.args.pin.now h) in
    record {
      across = record { least = omega (arith, ints); most = omega (arith, ints) };
      up = record { least = omega (arith, ints); most = omega (arith, ints) };
    }
