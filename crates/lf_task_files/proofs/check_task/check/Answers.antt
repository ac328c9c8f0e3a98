use Rattle.std.proofs.Common.{◌≡◌, ◌⊎◌, inl, map, refl}
use Rattle.std.proofs.lemmas.Result.{err_from_is_err_and}
use Rattle.lf_floorplan.specs.declared.loaded.Loaded.{Loaded}
use Rattle.lf_task_designs.specs.Checks.{IsNotReported}
use Rattle.lf_task_files.specs.Exits.{IsReported}
use Rattle.lf_task_files.specs.States.{IsFloorFault, IsViewedDesignOf}
use Rattle.lf_task_files.specs.Inputs.{path_of}
use Rattle.lf_task_files.proofs.DesignSteps.{comes_of, fails}
use Rattle.lf_task_files.proofs.WorkSteps.{first_fails, floor_early}
use Rattle.lf_task_files.proofs.check_task.check.Goals as goal

pub returns-clause-ok : goal.returns-clause-ok
returns-clause-ok g c =
    let design = IsViewedDesignOf c.args.committed c.args.inputs.limits (g.T.InputFiles.gives c.args.texts.now) c.args.inputs.def.now (map (λ lef. lef.now) c.args.inputs.lefs.now) (path_of c.args.inputs.state) in
    comes_of design c.in_ok-seen.seen c.in_ok-seen.ensures.ok c.check_design.result
    (λ l. IsReported l (g.W.Sink.contents c.args.writer.now) (g.W.Sink.contents c.check_design.new.writer)) c.check_design.ensures.ok

pub returns-clause-err : goal.returns-clause-err
returns-clause-err g c =
    let gives = g.T.InputFiles.gives c.args.texts.now in
    let lefs = map (λ lef. lef.now) c.args.inputs.lefs.now in
    let state = path_of c.args.inputs.state in
    fails (IsViewedDesignOf c.args.committed c.args.inputs.limits gives c.args.inputs.def.now lefs state) c.in_ok-seen.seen c.in_ok-seen.ensures.ok c.check_design.result
    (λ fault. IsFloorFault c.args.inputs.limits gives c.args.inputs.def.now lefs state fault
    × (g.W.Sink.contents c.check_design.new.writer ≡ g.W.Sink.contents c.args.writer.now)) _
    (λ l. IsNotReported l (g.W.Sink.contents c.args.writer.now) (g.W.Sink.contents c.check_design.new.writer)) c.check_design.ensures.err

pub returns-in_err-seen-clause-err : goal.returns-in_err-seen-clause-err
returns-in_err-seen-clause-err g c =
    let p = err_from_is_err_and c.from_residual.result c.from_residual.ensures.1 in
    let gives = g.T.InputFiles.gives c.args.texts.now in
    let def = c.args.inputs.def.now in
    let lefs = map (λ lef. lef.now) c.args.inputs.lefs.now in
    let state = path_of c.args.inputs.state in
    let bytes = g.W.Sink.contents c.args.writer.now in
    rw (p.1, p.2) (first_fails (IsFloorFault c.args.inputs.limits gives def lefs state)
    (λ fault. (IsFloorFault c.args.inputs.limits gives def lefs state fault × (bytes ≡ bytes)) ⊎ ((seen : Loaded) × IsViewedDesignOf c.args.committed c.args.inputs.limits gives def lefs state seen × IsNotReported seen bytes bytes fault))
    (c.args.writer.now ≡ c.args.writer.now) _ _ _ _ _ _ refl refl c.in_err-seen.ensures.err (floor_early c.args.inputs.limits gives def lefs state) (λ fault why. inl (why, refl)))
