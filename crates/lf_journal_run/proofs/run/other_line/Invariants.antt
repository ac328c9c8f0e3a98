use Rattle.std.proofs.Common.{◌-◌, ◌≤◌, length}
use Rattle.lf_journal_run.proofs.run.other_line.Given as goal

abbrev pub invariant-loop-at : goal.invariant-loop-at
invariant-loop-at l = record {
  start : l.start ≤ l.at;
  within : l.at ≤ length l.text;
}

abbrev pub decreases-loop-at : goal.decreases-loop-at
decreases-loop-at l = length l.text - l.at
