use Rattle.std.proofs.Common.{◌∙◌, ◌+◌, ℕ, List, None, ap, inl, refl}
use Rattle.std.proofs.lemmas.Result.{err_from_is_err_and}
use Rattle.lf_floor_model.specs.States.{FloorState}
use Rattle.lf_wire_length.specs.TeamNets.{nets_of_teams}
use Rattle.lf_task_wires.proofs.NettedSteps.{memory_fails, netted_opened, nets_fail}
use Rattle.lf_task_wires.proofs.Steps.{files_early}
use Rattle.lf_task_run.specs.Tasks.{request_of}
use Rattle.lf_task_improve.proofs.Openings.{begun_many, nets_begin, opened_with_nets}
use Rattle.lf_task_improve.proofs.opening.open_with_nets.Goals as goal

pub returns-clause-ok : goal.returns-clause-ok
returns-clause-ok g c =
    let netted = c.in_ok-loaded.ensures.ok in
    let loaded = c.in_ok-loaded.field-0.loaded in
    record {
      text = netted.text;
      document = netted.is.document;
      loaded = loaded;
      opened = netted_opened _ _ _ _ _ c.in_ok-loaded.field-0 netted;
      begins = record {
        opened = opened_with_nets _ _ _ _ _ c.in_ok-loaded.field-0 _ netted c.in_ok-netlist.was;
        begins = c.in_ok-floor.ensures;
        teams = c.in_ok-teams.ensures;
      };
      whole = begun_many loaded c.in_ok-floor.floor c.in_ok-floor.ensures;
      components = ap (λ (f : FloorState). f.components) c.in_ok-floor.ensures;
      are = netted.is.are;
      kept = netted.is.kept ∙ c.is_text_requested-is_text_kept.ensures;
    }

pub returns-clause-nets : goal.returns-clause-nets
returns-clause-nets g c =
    let count : ℕ = c.len-count.result + 1 in
    nets_begin c.in_ok-loaded.field-0.loaded c.in_ok-floor.floor c.in_ok-netlist.netlist.nets c.in_ok-of_teams.of_teams count c.in_ok-floor.ensures
    (c.in_ok-of_teams.ensures ∙ ap (λ (owners : List ℕ). nets_of_teams owners c.in_ok-netlist.netlist.nets count) (c.as_slice.ensures.value ∙ c.in_ok-teams.ensures))

pub returns-in_err-loaded-clause-err : goal.returns-in_err-loaded-clause-err
returns-in_err-loaded-clause-err g c =
    let p = err_from_is_err_and c.from_residual.result c.from_residual.ensures.1 in
    let job = request_of c.args.job.now in
    rw (p.1, p.2) (inl (inl c.in_err-loaded.ensures.err))

pub returns-in_err-loaded-clause-early : goal.returns-in_err-loaded-clause-early
returns-in_err-loaded-clause-early g c =
    let p = err_from_is_err_and c.from_residual.result c.from_residual.ensures.1 in
    let job = request_of c.args.job.now in
    rw (p.1, p.2) (files_early job.limits (g.T.InputFiles.gives c.args.texts.now) job.def job.lefs None _ (inl (inl c.in_err-loaded.ensures.err)))

pub returns-in_err-netlist-clause-err : goal.returns-in_err-netlist-clause-err
returns-in_err-netlist-clause-err g c =
    let p = err_from_is_err_and c.from_residual-in_err-netlist.result c.from_residual-in_err-netlist.ensures.1 in
    let job = request_of c.args.job.now in
    rw (p.1, p.2) (nets_fail job.limits (g.T.InputFiles.gives c.args.texts.now) job.def job.lefs None _ c.in_ok-loaded.field-0 _ c.in_ok-loaded.ensures.ok c.in_err-netlist.was)

pub returns-in_err-netlist-clause-early : goal.returns-in_err-netlist-clause-early
returns-in_err-netlist-clause-early g c =
    let p = err_from_is_err_and c.from_residual-in_err-netlist.result c.from_residual-in_err-netlist.ensures.1 in
    let job = request_of c.args.job.now in
    rw (p.1, p.2) (files_early job.limits (g.T.InputFiles.gives c.args.texts.now) job.def job.lefs None _ (nets_fail job.limits (g.T.InputFiles.gives c.args.texts.now) job.def job.lefs None _ c.in_ok-loaded.field-0 _ c.in_ok-loaded.ensures.ok c.in_err-netlist.was))

pub returns-in_err-teams-clause-err : goal.returns-in_err-teams-clause-err
returns-in_err-teams-clause-err g c =
    let p = err_from_is_err_and c.from_residual-in_err-teams.result c.from_residual-in_err-teams.ensures.1 in
    let job = request_of c.args.job.now in
    rw (p.1, p.2) (memory_fails job.limits (g.T.InputFiles.gives c.args.texts.now) job.def job.lefs None _ c.in_ok-loaded.field-0 _ c.in_ok-loaded.ensures.ok refl)

pub returns-in_err-teams-clause-early : goal.returns-in_err-teams-clause-early
returns-in_err-teams-clause-early g c =
    let p = err_from_is_err_and c.from_residual-in_err-teams.result c.from_residual-in_err-teams.ensures.1 in
    let job = request_of c.args.job.now in
    rw (p.1, p.2) (files_early job.limits (g.T.InputFiles.gives c.args.texts.now) job.def job.lefs None _ (memory_fails job.limits (g.T.InputFiles.gives c.args.texts.now) job.def job.lefs None _ c.in_ok-loaded.field-0 _ c.in_ok-loaded.ensures.ok refl))

pub returns-in_err-floor-clause-err : goal.returns-in_err-floor-clause-err
returns-in_err-floor-clause-err g c =
    let p = err_from_is_err_and c.from_residual-in_err-floor.result c.from_residual-in_err-floor.ensures.1 in
    let job = request_of c.args.job.now in
    rw (p.1, p.2) (memory_fails job.limits (g.T.InputFiles.gives c.args.texts.now) job.def job.lefs None _ c.in_ok-loaded.field-0 _ c.in_ok-loaded.ensures.ok refl)

pub returns-in_err-floor-clause-early : goal.returns-in_err-floor-clause-early
returns-in_err-floor-clause-early g c =
    let p = err_from_is_err_and c.from_residual-in_err-floor.result c.from_residual-in_err-floor.ensures.1 in
    let job = request_of c.args.job.now in
    rw (p.1, p.2) (files_early job.limits (g.T.InputFiles.gives c.args.texts.now) job.def job.lefs None _ (memory_fails job.limits (g.T.InputFiles.gives c.args.texts.now) job.def job.lefs None _ c.in_ok-loaded.field-0 _ c.in_ok-loaded.ensures.ok refl))

pub returns-in_err-of_teams-clause-err : goal.returns-in_err-of_teams-clause-err
returns-in_err-of_teams-clause-err g c =
    let p = err_from_is_err_and c.from_residual-in_err-of_teams.result c.from_residual-in_err-of_teams.ensures.1 in
    let job = request_of c.args.job.now in
    rw (p.1, p.2) (memory_fails job.limits (g.T.InputFiles.gives c.args.texts.now) job.def job.lefs None _ c.in_ok-loaded.field-0 _ c.in_ok-loaded.ensures.ok refl)

pub returns-in_err-of_teams-clause-early : goal.returns-in_err-of_teams-clause-early
returns-in_err-of_teams-clause-early g c =
    let p = err_from_is_err_and c.from_residual-in_err-of_teams.result c.from_residual-in_err-of_teams.ensures.1 in
    let job = request_of c.args.job.now in
    rw (p.1, p.2) (files_early job.limits (g.T.InputFiles.gives c.args.texts.now) job.def job.lefs None _ (memory_fails job.limits (g.T.InputFiles.gives c.args.texts.now) job.def job.lefs None _ c.in_ok-loaded.field-0 _ c.in_ok-loaded.ensures.ok refl))
