use Rattle.std.proofs.Common.{arith}
use Rattle.lf_units.proofs.TreeBounds.{shares_with_bound}
use Rattle.lf_units.proofs.least_overlapping.may_be_less.Goals as goal

pub returns-2 : goal.returns-2
returns-2 c = grind (arith, shares_with_bound)
