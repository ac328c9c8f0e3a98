use Rattle.std.proofs.Common.{◌≤◌, ◌-◌}
use Rattle.lf_repair_planner.proofs.packed_insertion.left_side.Given as goal

abbrev pub invariant-loop-count : goal.invariant-loop-count
invariant-loop-count l = l.count ≤ l.gap

abbrev pub decreases-loop-count : goal.decreases-loop-count
decreases-loop-count l = l.gap - l.count
