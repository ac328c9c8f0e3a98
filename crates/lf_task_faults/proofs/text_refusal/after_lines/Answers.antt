use Rattle.lf_task_faults.proofs.Shown.{passed}
use Rattle.lf_task_faults.proofs.text_refusal.after_lines.Goals as goal

pub loop-passed-preserved : goal.loop-passed-preserved
loop-passed-preserved c = record {
  left = rw c.after_line-rest.ensures (passed c.args.lines c.loop-passed._passed c.args.text.now c.loop-passed.rest.now c.loop-passed-test.true
      c.loop-passed.invariant.left);
}
