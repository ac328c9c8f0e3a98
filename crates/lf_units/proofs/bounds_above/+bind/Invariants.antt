use Rattle.std.proofs.Common.{length}
use Rattle.lf_units.proofs.bounds_above.+bind.Given as goal

abbrev pub decreases-bind : goal.decreases-bind
decreases-bind l = length l.bounds.now
