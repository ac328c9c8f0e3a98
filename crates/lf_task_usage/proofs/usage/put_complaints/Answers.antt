use Rattle.std.proofs.Common.{◌∙◌}
use Rattle.lf_task_usage.proofs.Said.{also_said}
use Rattle.lf_task_usage.proofs.usage.put_complaints.Goals as goal

pub loop-line-preserved : goal.loop-line-preserved
loop-line-preserved g c = record {
  told = also_said _ _ _ c.loop-line.invariant.told c.in_ok-put_complaint.ensures.ok;
  held = c.put_complaint.ensures.held ∙ c.loop-line.invariant.held;
}
