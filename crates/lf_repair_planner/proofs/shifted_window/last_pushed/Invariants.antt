use Rattle.std.proofs.Common.{◌≤◌, ◌-◌, length}
use Rattle.lf_repair_planner.proofs.shifted_window.last_pushed.Given as goal

abbrev pub invariant-loop-last : goal.invariant-loop-last
invariant-loop-last l = record {
  from : l.gap ≤ l.last;
  within : l.last ≤ length l.cells;
}

abbrev pub decreases-loop-last : goal.decreases-loop-last
decreases-loop-last l = length l.cells - l.last
