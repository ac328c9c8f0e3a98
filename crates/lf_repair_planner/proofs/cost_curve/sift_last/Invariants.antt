use Rattle.std.proofs.Common.{◌≤◌, length}
use Rattle.lf_repair_planner.proofs.cost_curve.sift_last.Given as goal

abbrev pub invariant-loop-place : goal.invariant-loop-place
invariant-loop-place l = l.place ≤ length l.kinks

abbrev pub decreases-loop-place : goal.decreases-loop-place
decreases-loop-place l = l.place
