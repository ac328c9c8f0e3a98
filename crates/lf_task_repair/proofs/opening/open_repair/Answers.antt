use Rattle.std.proofs.Common.{inl, inr}
use Rattle.std.proofs.lemmas.Result.{IfErr-weaker}
use Rattle.lf_task_run.specs.Tasks.{request_of}
use Rattle.lf_task_repair.proofs.Refusals.{opening_early}
use Rattle.lf_task_repair.proofs.opening.open_repair.Goals as goal

pub returns-then-near_nets-clause-err : goal.returns-then-near_nets-clause-err
returns-then-near_nets-clause-err g c = IfErr-weaker c.open_near_nets.result _ _ (λ fault why. inr (c.if-near_nets.true, why)) c.open_near_nets.ensures.err

pub returns-then-near_nets-clause-early : goal.returns-then-near_nets-clause-early
returns-then-near_nets-clause-early g c =
    IfErr-weaker c.open_near_nets.result _ _
    (λ fault why. opening_early c.args.options.now (g.T.InputFiles.gives c.args.texts.now) (request_of c.args.job.now) fault (inr (c.if-near_nets.true, why)))
    c.open_near_nets.ensures.err

pub returns-clause-err : goal.returns-clause-err
returns-clause-err g c = IfErr-weaker c.open_without_nets.result _ _ (λ fault why. inl why) c.open_without_nets.ensures.err

pub returns-clause-early : goal.returns-clause-early
returns-clause-early g c =
    IfErr-weaker c.open_without_nets.result _ _
    (λ fault why. opening_early c.args.options.now (g.T.InputFiles.gives c.args.texts.now) (request_of c.args.job.now) fault (inl why))
    c.open_without_nets.ensures.err
