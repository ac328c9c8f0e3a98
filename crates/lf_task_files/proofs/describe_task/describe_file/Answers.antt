use Rattle.lf_task_files.specs.Exits.{IsViewNotDescribed}
use Rattle.lf_task_files.specs.Inputs.{path_of}
use Rattle.lf_task_files.proofs.WorkSteps.{file_fails, step_fails, weaker_ok}
use Rattle.lf_task_files.proofs.describe_task.describe_file.Goals as goal

pub returns-clause-ok : goal.returns-clause-ok
returns-clause-ok g c =
    weaker_ok c.describe_text.result _ _ (rw c.deref.ensures.value at c.describe_text.ensures.ok)
    (λ status is. (c.in_ok-text.text.items, (rw c.def_file.ensures.path at c.in_ok-text.ensures.ok), is))

pub returns-clause-err : goal.returns-clause-err
returns-clause-err g c =
    step_fails c.describe_text.result _ _ _ (rw c.deref.ensures.value at c.describe_text.ensures.err)
    (λ fault why. file_fails c.args.inputs.limits (g.T.InputFiles.gives c.args.texts.now) c.args.inputs.def.now c.args.library.now c.in_ok-text.text.items
    (λ document loaded. IsViewNotDescribed (g.T.InputFiles.gives c.args.texts.now) (path_of c.args.inputs.state) document loaded
    (g.W.Sink.contents c.args.writer.now) (g.W.Sink.contents c.describe_text.new.writer) fault) fault
    (rw c.def_file.ensures.path at c.in_ok-text.ensures.ok) why)
