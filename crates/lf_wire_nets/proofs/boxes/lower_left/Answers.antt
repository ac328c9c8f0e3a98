use Rattle.std.proofs.Common.{arith}
use Rattle.std.proofs.lemmas.Int.{ints}
use Rattle.lf_lef.specs.Lengths.{IsLengthInRange}
use Rattle.lf_wire_nets.proofs.boxes.lower_left.Goals as goal

pub returns-clause-x : goal.returns-clause-x
returns-clause-x c =
    let h : IsLengthInRange c.lesser.result = c.lesser.ensures.range in
    record { low = omega (arith, ints, h.low, h.high); high = omega (arith, ints, h.low, h.high) }

pub returns-clause-y : goal.returns-clause-y
returns-clause-y c =
    let h : IsLengthInRange c.lesser-2.result = c.lesser-2.ensures.range in
    record { low = omega (arith, ints, h.low, h.high); high = omega (arith, ints, h.low, h.high) }
