use Rattle.std.proofs.Common.{◌≤◌}
use Rattle.lf_repair_planner.proofs.shifted_window.first_pushed.Given as goal

abbrev pub invariant-loop-first : goal.invariant-loop-first
invariant-loop-first l = l.first ≤ l.gap

abbrev pub decreases-loop-first : goal.decreases-loop-first
decreases-loop-first l = l.first
