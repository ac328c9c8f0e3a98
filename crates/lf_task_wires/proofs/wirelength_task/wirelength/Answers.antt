use Rattle.std.proofs.Common.{◌≡◌, inl, map, refl}
use Rattle.std.proofs.lemmas.Result.{err_from_is_err_and}
use Rattle.lf_task_files.specs.Inputs.{path_of}
use Rattle.lf_task_files.proofs.WorkSteps.{first_fails}
use Rattle.lf_task_wires.specs.Wirelengths.{IsFilesFault, IsNotMeasured}
use Rattle.lf_task_wires.proofs.Steps.{files_early}
use Rattle.lf_task_wires.proofs.wirelength_task.wirelength.Goals as goal

pub returns-in_err-report-clause-err : goal.returns-in_err-report-clause-err
returns-in_err-report-clause-err g c =
    let p = err_from_is_err_and c.from_residual.result c.from_residual.ensures.1 in
    let gives = g.T.InputFiles.gives c.args.texts.now in
    let lefs = map (λ lef. lef.now) c.args.inputs.lefs.now in
    let bytes = g.W.Sink.contents c.args.writer.now in
    rw (p.1, p.2) (first_fails (IsFilesFault c.args.inputs.limits gives c.args.inputs.def.now lefs (path_of c.args.inputs.state))
    (λ fault. IsNotMeasured c.args.inputs.limits gives c.args.inputs.def.now lefs (path_of c.args.inputs.state) bytes bytes fault)
    (c.args.writer.now ≡ c.args.writer.now) _ _ _ _ _ _ refl refl c.in_err-report.ensures.err (files_early c.args.inputs.limits gives c.args.inputs.def.now lefs (path_of c.args.inputs.state)) (λ fault why. inl (why, refl)))
