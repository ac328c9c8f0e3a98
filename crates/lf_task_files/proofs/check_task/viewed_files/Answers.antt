use Rattle.std.proofs.Common.{inr}
use Rattle.std.proofs.lemmas.Result.{IfErr-weaker, IfOk-weaker}
use Rattle.lf_task_files.proofs.check_task.viewed_files.Goals as goal

pub returns-clause-ok : goal.returns-clause-ok
returns-clause-ok g c = IfOk-weaker c.viewed_design.result _ _ (λ seen is. (c.in_ok-loaded.loaded, c.in_ok-loaded.ensures.ok, is)) c.viewed_design.ensures.ok

pub returns-clause-err : goal.returns-clause-err
returns-clause-err g c = IfErr-weaker c.viewed_design.result _ _ (λ fault why. inr (c.in_ok-loaded.loaded, c.in_ok-loaded.ensures.ok, why)) c.viewed_design.ensures.err
