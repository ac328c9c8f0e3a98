use Rattle.std.proofs.Common.{arith}
use Rattle.std.proofs.lemmas.Int.{ints, clamps}
use Rattle.lf_units.proofs.join.longer.Goals as goal

pub returns : goal.returns
returns c =
    let hi = c.max.ensures.value in
    record {
      same = omega (arith, ints);
      first = omega (arith, ints, clamps);
      second = omega (arith, ints, clamps);
      least = λ x e f. omega (arith, ints, clamps, e, f);
    }
