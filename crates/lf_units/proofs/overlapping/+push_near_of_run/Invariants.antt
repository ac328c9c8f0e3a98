use Rattle.std.proofs.Common.{length}
use Rattle.lf_units.proofs.overlapping.+push_near_of_run.Given as goal

abbrev pub decreases-push_near_of_run : goal.decreases-push_near_of_run
decreases-push_near_of_run l = length l.bounds.now
