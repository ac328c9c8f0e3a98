use Rattle.std.proofs.lemmas.Result.{IfErr-weaker, IfOk-weaker}
use Rattle.lf_def.specs.Contents.{contents}
use Rattle.lf_task_wires.proofs.NettedSteps.{document_fails}
use Rattle.lf_task_wires.proofs.netted.parts_of_text.Goals as goal

pub returns-clause-ok : goal.returns-clause-ok
returns-clause-ok c =
    IfOk-weaker c.parts_of_document.result _ _ (λ parts has. (contents c.in_ok-document.document, c.in_ok-document.ensures.ok, has)) c.parts_of_document.ensures.ok

pub returns-clause-err : goal.returns-clause-err
returns-clause-err c =
    let input = c.args.input.now in
    IfErr-weaker c.parts_of_document.result _ _
    (λ fault why. document_fails input.limits c.args.library.now input.def.now c.args.text.now (contents c.in_ok-document.document) fault c.in_ok-document.ensures.ok why)
    c.parts_of_document.ensures.err
