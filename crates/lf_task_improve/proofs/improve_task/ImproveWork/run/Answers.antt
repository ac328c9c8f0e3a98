use Rattle.std.proofs.Common.{subst, sym}
use Rattle.std.proofs.lemmas.Result.{IfErr-weaker}
use Rattle.lf_task_faults.specs.Faults.{IsEarly}
use Rattle.lf_task_improve.proofs.improve_task.ImproveWork.run.Goals as goal

pub returns-clause-early : goal.returns-clause-early
returns-clause-early g c = IfErr-weaker c.improve_selected.result _ _ (λ fault is. subst IsEarly (sym is) tt) c.improve_selected.ensures.err
