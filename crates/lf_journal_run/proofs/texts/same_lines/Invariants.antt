use Rattle.std.proofs.Common.{◌≡◌, ◌+◌, ◌-◌, ◌≤◌, drop, length}
use Rattle.lf_journal_run.specs.Texts.{same_lines}
use Rattle.lf_journal_run.proofs.texts.same_lines.Given as goal

abbrev pub invariant-loop-at : goal.invariant-loop-at
invariant-loop-at l = record {
  within : l.at ≤ length l.text;
  within_other : l.at ≤ length l.other;
  few : l.count ≤ l.at;
  counts : l.count + same_lines (drop l.at l.text) (drop l.at l.other) ≡ same_lines l.text l.other;
}

abbrev pub decreases-loop-at : goal.decreases-loop-at
decreases-loop-at l = length l.text - l.at
