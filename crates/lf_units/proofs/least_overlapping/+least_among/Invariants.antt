use Rattle.std.proofs.Common.{length}
use Rattle.lf_units.proofs.least_overlapping.+least_among.Given as goal

abbrev pub decreases-least_among : goal.decreases-least_among
decreases-least_among l = length l.bounds.now
