use Rattle.std.proofs.Common.{arith}
use Rattle.std.proofs.lemmas.Int.{ints, clamps}
use Rattle.lf_units.proofs.meet.overlap.Goals as goal

pub returns : goal.returns
returns c =
    let lo = c.max.ensures.value in
    let hi = c.min.ensures.value in
    record {
      first = record { low = omega (arith, ints, clamps); high = omega (arith, ints, clamps) };
      second = record { low = omega (arith, ints, clamps); high = omega (arith, ints, clamps) };
      greatest = λ s e f. record { low = omega (arith, ints, clamps, e.low, f.low); high = omega (arith, ints, clamps, e.high, f.high) };
    }
