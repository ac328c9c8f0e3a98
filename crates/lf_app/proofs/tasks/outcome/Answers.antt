use Rattle.std.proofs.lemmas.Result.{IfErr-weaker, IfOk-weaker}
use Rattle.lf_cli.specs.Command.{as_job}
use Rattle.lf_task_designs.specs.Designs.{AreWithSlots}
use Rattle.lf_app.specs.Requests.{requests_of}
use Rattle.lf_app.proofs.tasks.outcome.Goals as goal

pub returns-clause-ok : goal.returns-clause-ok
returns-clause-ok g c =
    let slots : AreWithSlots (requests_of (as_job c.args.task.now)).slots c.limits_for-limits.result = rw c.slots_of.ensures at c.limits_for-limits.ensures in
    IfOk-weaker c.outcome_within.result _ _ (λ status is. (c.limits_for-limits.result, slots, is)) c.outcome_within.ensures.ok

pub returns-clause-err : goal.returns-clause-err
returns-clause-err g c =
    let slots : AreWithSlots (requests_of (as_job c.args.task.now)).slots c.limits_for-limits.result = rw c.slots_of.ensures at c.limits_for-limits.ensures in
    IfErr-weaker c.outcome_within.result _ _ (λ fault both. ((c.limits_for-limits.result, slots, both.0), both.1)) c.outcome_within.ensures.err
