use Rattle.std.proofs.Common.{◌≡◌, ◌-◌}
use Rattle.lf_task_faults.specs.Refusals.{after_lines}
use Rattle.lf_task_faults.proofs.text_refusal.after_lines.Given as goal

abbrev pub invariant-loop-passed : goal.invariant-loop-passed
invariant-loop-passed l = record {
  left : after_lines (l.lines - l._passed) l.rest ≡ after_lines l.lines l.text;
}
