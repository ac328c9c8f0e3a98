use Rattle.lf_task_designs.proofs.Fronts.{front_after, front_first}
use Rattle.lf_task_designs.proofs.check_report.put_line.Goals as goal

pub returns-in_err-send-clause-prefix : goal.returns-in_err-send-clause-prefix
returns-in_err-send-clause-prefix g c = front_first c.from_residual.result _ _ c.args.text.now _ c.in_err-send.ensures.prefix

pub returns-clause-prefix : goal.returns-clause-prefix
returns-clause-prefix g c = front_after c.send-2.result _ _ _ c.args.text.now _ c.in_ok-send.ensures.ok c.send-2.ensures.prefix
