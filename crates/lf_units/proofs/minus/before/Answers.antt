use Rattle.std.proofs.Common.{arith}
use Rattle.std.proofs.lemmas.Int.{ints, clamps}
use Rattle.lf_units.proofs.minus.before.Goals as goal

pub returns : goal.returns
returns c =
    let hi = c.min.ensures.value in
    record {
      same = omega (arith, ints);
      near = omega (arith, ints, clamps);
      within = omega (arith, ints, clamps);
      greatest = λ x e f. omega (arith, ints, clamps, e, f);
    }
