use Rattle.std.proofs.Common.{arith}
use Rattle.std.proofs.lemmas.Int.{ints}
use Rattle.lf_wire_length.proofs.TurnLemmas.{same_half_point}
use Rattle.lf_wire_length.proofs.laws.turns_compose.Goals as goal

pub returns : goal.returns
returns c = record {
  south = λ size p. same_half_point _ _ (omega (arith, ints)) (omega (arith, ints));
  east = λ size p. same_half_point _ _ (omega (arith, ints)) (omega (arith, ints));
  north = λ size p. same_half_point _ _ (omega (arith, ints)) (omega (arith, ints));
  west_flipped = λ size p. same_half_point _ _ (omega (arith, ints)) (omega (arith, ints));
  south_flipped = λ size p. same_half_point _ _ (omega (arith, ints)) (omega (arith, ints));
  east_flipped = λ size p. same_half_point _ _ (omega (arith, ints)) (omega (arith, ints));
}
