use Rattle.std.proofs.lemmas.Result.{IfErr-weaker, IfOk-weaker}
use Rattle.lf_task_wires.proofs.NettedSteps.{netted_text_fails}
use Rattle.lf_task_wires.proofs.netted.netted_file.Goals as goal

pub returns-clause-ok : goal.returns-clause-ok
returns-clause-ok g c =
    IfOk-weaker c.netted_text.result _ _ (λ design is. (c.in_ok-text.text.items, rw c.def_file.ensures.path at c.in_ok-text.ensures.ok, is)) c.netted_text.ensures.ok

pub returns-clause-err : goal.returns-clause-err
returns-clause-err g c =
    let input = c.args.input.now in
    IfErr-weaker c.netted_text.result _ _
    (λ fault why. netted_text_fails input.limits (g.T.InputFiles.gives c.args.texts.now) c.args.library.now input.def.now c.in_ok-text.text.items fault
    (rw c.def_file.ensures.path at c.in_ok-text.ensures.ok) why) c.netted_text.ensures.err
