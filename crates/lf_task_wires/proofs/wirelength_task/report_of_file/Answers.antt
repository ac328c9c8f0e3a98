use Rattle.std.proofs.Common.{map}
use Rattle.std.proofs.lemmas.Result.{IfErr-weaker, IfOk-weaker}
use Rattle.lf_task_files.specs.Inputs.{path_of}
use Rattle.lf_task_wires.proofs.Steps.{text_fails}
use Rattle.lf_task_wires.proofs.wirelength_task.report_of_file.Goals as goal

pub returns-clause-ok : goal.returns-clause-ok
returns-clause-ok g c =
    IfOk-weaker c.report_of_text.result _ _
    (λ report is. (c.in_ok-text.text.items, (rw c.def_file.ensures.path at c.in_ok-text.ensures.ok), is)) (rw c.deref.ensures.value at c.report_of_text.ensures.ok)

pub returns-clause-err : goal.returns-clause-err
returns-clause-err g c =
    IfErr-weaker c.report_of_text.result _ _
    (λ fault why. text_fails c.args.inputs.limits (g.T.InputFiles.gives c.args.texts.now) c.args.inputs.def.now (map (λ lef. lef.now) c.args.inputs.lefs.now) (map (λ t. t.items) c.args.kept.now)
    (path_of c.args.inputs.state) c.args.library.now c.in_ok-text.text.items fault (rw c.def_file.ensures.path at c.in_ok-text.ensures.ok) why) (rw c.deref.ensures.value at c.report_of_text.ensures.err)
