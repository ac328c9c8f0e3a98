use Rattle.std.proofs.Common.{inr, map}
use Rattle.std.proofs.lemmas.Result.{IfErr-weaker, IfOk-weaker, err_from_is_err_and}
use Rattle.lf_def.specs.Contents.{contents}
use Rattle.lf_task_files.specs.Inputs.{path_of}
use Rattle.lf_task_wires.proofs.Steps.{unseen_fails}
use Rattle.lf_task_wires.proofs.wirelength_task.report_of_text.Goals as goal

pub returns-clause-ok : goal.returns-clause-ok
returns-clause-ok g c =
    let seen = c.in_ok-seen.ensures.ok in
    IfOk-weaker c.report_of_texts.result _ _
    (λ report is. (contents c.in_ok-document.document, seen.0, c.in_ok-seen.seen, c.in_ok-document.ensures.ok, seen.1, seen.2, is)) c.report_of_texts.ensures.ok

pub returns-clause-err : goal.returns-clause-err
returns-clause-err g c = IfErr-weaker c.report_of_texts.result _ _ (λ fault why. inr (inr why)) c.report_of_texts.ensures.err

pub returns-in_err-seen-clause-err : goal.returns-in_err-seen-clause-err
returns-in_err-seen-clause-err g c =
    let p = err_from_is_err_and c.from_residual-in_err-seen.result c.from_residual-in_err-seen.ensures.1 in
    rw (p.1, p.2) (unseen_fails c.args.inputs.limits (g.T.InputFiles.gives c.args.texts.now) c.args.inputs.def.now (map (λ lef. lef.now) c.args.inputs.lefs.now) (map (λ t. t.items) c.args.kept.now)
    (path_of c.args.inputs.state) c.args.library.now c.args.text.now (contents c.in_ok-document.document) _ c.in_ok-document.ensures.ok c.in_err-seen.ensures.err)
