use Rattle.std.proofs.Common.{arith}
use Rattle.std.proofs.lemmas.Int.{ints, clamps}
use Rattle.lf_units.proofs.minus.after_it.Goals as goal

pub returns : goal.returns
returns c =
    let lo = c.max.ensures.value in
    record {
      same = omega (arith, ints);
      past = omega (arith, ints, clamps);
      within = omega (arith, ints, clamps);
      least = λ x e f. omega (arith, ints, clamps, e, f);
    }
