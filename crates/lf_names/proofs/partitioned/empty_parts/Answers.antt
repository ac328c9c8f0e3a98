use Rattle.std.proofs.Common.{arith}
use Rattle.lf_names.proofs.partitioned.empty_parts.Goals as goal

pub returns : goal.returns
returns c = record {
  many = omega (arith, c.loop.invariant.many);
  each = λ part d below. c.loop.invariant.each part d (omega arith);
}
