use Rattle.std.proofs.Common.{◌<◌, ◌-◌}
use Rattle.lf_legalize.proofs.nearest.nearest.Given as goal

abbrev pub invariant-loop-reach : goal.invariant-loop-reach
invariant-loop-reach l = 0 < l.reach

abbrev pub decreases-loop-reach : goal.decreases-loop-reach
decreases-loop-reach l = l.farthest - l.reach
