use Rattle.std.proofs.Common.{inl, inr, map}
use Rattle.std.proofs.lemmas.Result.{IfErr-weaker, IfOk-weaker, err_from_is_err_and}
use Rattle.lf_task_files.specs.Inputs.{path_of}
use Rattle.lf_task_files.proofs.WorkSteps.{design_early, unbegun_early}
use Rattle.lf_task_run.proofs.Ends.{unknown_early}
use Rattle.lf_task_hub.proofs.hub_task.serve_hub_files.Goals as goal

pub returns-in_err-loaded-clause-err : goal.returns-in_err-loaded-clause-err
returns-in_err-loaded-clause-err g c =
    let p = err_from_is_err_and c.from_residual.result c.from_residual.ensures.1 in
    let design = c.args.input.design in
    rw (p.1, p.2) (
      inl c.in_err-loaded.ensures.err,
      inl (design_early design.limits (g.T.InputFiles.gives c.args.texts.now) design.def.now (map (λ lef. lef.now) design.lefs.now) c.in_err-loaded.field-0.0
          c.in_err-loaded.ensures.err),
    )

pub returns-in_err-floor-clause-err : goal.returns-in_err-floor-clause-err
returns-in_err-floor-clause-err g c =
    let p = err_from_is_err_and c.from_residual-in_err-floor.result c.from_residual-in_err-floor.ensures.1 in
    let why = c.in_err-floor.ensures.err in
    rw (p.1, p.2) (
      inr (c.in_ok-loaded.loaded, c.in_ok-loaded.ensures.ok, inl why),
      inl (unbegun_early (g.T.InputFiles.gives c.args.texts.now) (path_of c.args.input.design.state) c.in_ok-loaded.loaded c.in_err-floor.field-0.0 why),
    )

pub returns-in_err-all_known-clause-err : goal.returns-in_err-all_known-clause-err
returns-in_err-all_known-clause-err g c =
    let p = err_from_is_err_and c.from_residual-in_err-all_known.result c.from_residual-in_err-all_known.ensures.1 in
    let early = unknown_early c.in_ok-floor.floor.frame (map (λ team. team.now) c.args.input.teams.now) c.in_err-all_known.field-0.0 c.in_err-all_known.ensures.err in
    rw (p.1, p.2) (inr (c.in_ok-loaded.loaded, c.in_ok-loaded.ensures.ok, inr (inl early)), inl early)

pub returns-clause-ok : goal.returns-clause-ok
returns-clause-ok g c = IfOk-weaker c.serve_restored.result _ _
    (λ status serves. (
      record {
        loaded = c.in_ok-loaded.loaded;
        designed = c.in_ok-loaded.ensures.ok;
        opened = c.in_ok-floor.floor;
        opens = c.in_ok-floor.ensures.ok;
        serves = serves.0;
      },
      serves.1,
    )) c.serve_restored.ensures.ok

pub returns-clause-err : goal.returns-clause-err
returns-clause-err g c = IfErr-weaker c.serve_restored.result _ _
    (λ fault of. (inr (c.in_ok-loaded.loaded, c.in_ok-loaded.ensures.ok, inr of), of)) c.serve_restored.ensures.err
