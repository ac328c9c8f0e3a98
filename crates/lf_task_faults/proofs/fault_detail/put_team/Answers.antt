use Rattle.lf_task_faults.proofs.Shown.{before}
use Rattle.lf_task_faults.proofs.fault_detail.put_team.Goals as goal

pub returns-clause-ok : goal.returns-clause-ok
returns-clause-ok g c = before c.put_shown.result _ _ _ _ _ c.in_ok-send.ensures.ok c.put_shown.ensures.ok
