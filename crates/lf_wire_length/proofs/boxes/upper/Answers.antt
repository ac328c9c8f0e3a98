use Rattle.std.proofs.Common.{arith}
use Rattle.std.proofs.lemmas.Int.{clamps, ints}
use Rattle.lf_wire_length.proofs.boxes.upper.Goals as goal

pub returns-clause-in_range : goal.returns-clause-in_range
returns-clause-in_range c = record {
  across = record { least = omega (arith, ints, clamps); most = omega (arith, ints, clamps) };
  up = record { least = omega (arith, ints, clamps); most = omega (arith, ints, clamps) };
}
