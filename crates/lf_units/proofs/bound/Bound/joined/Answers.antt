use Rattle.std.proofs.Common.{arith}
use Rattle.std.proofs.lemmas.Int.{ints}
use Rattle.lf_units.proofs.bound.Bound.joined.Goals as goal

pub returns-clause-the_same : goal.returns-clause-the_same
returns-clause-the_same c = λ p within. record {
  left = omega (arith, ints);
  bottom = omega (arith, ints);
  right = omega (arith, ints);
  top = omega (arith, ints);
  least = omega arith;
}

pub returns-clause-the_others : goal.returns-clause-the_others
returns-clause-the_others c = λ p within. record {
  left = omega (arith, ints);
  bottom = omega (arith, ints);
  right = omega (arith, ints);
  top = omega (arith, ints);
  least = omega arith;
}
