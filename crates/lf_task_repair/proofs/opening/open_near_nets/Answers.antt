use Rattle.std.proofs.Common.{◌∙◌, inl, inr, refl}
use Rattle.std.proofs.lemmas.Result.{err_from_is_err_and}
use Rattle.lf_task_files.specs.Inputs.{path_of}
use Rattle.lf_floor_model.specs.Designs.{initial_floor}
use Rattle.lf_task_files.proofs.Measuring.{begun_components}
use Rattle.lf_task_files.proofs.WorkSteps.{design_opened}
use Rattle.lf_task_wires.proofs.NettedSteps.{memory_fails, netted_opened, nets_fail}
use Rattle.lf_task_repair.proofs.opening.open_near_nets.Goals as goal

pub returns-clause-ok : goal.returns-clause-ok
returns-clause-ok g c =
    let netted = c.in_ok-loaded.ensures.ok in
    let measured = c.in_ok-measured.ensures.ok in
    record {
      text = netted.text;
      document = netted.is.document;
      loaded = c.in_ok-loaded.field-0.loaded;
      opened = netted_opened _ _ _ _ _ c.in_ok-loaded.field-0 netted;
      are = netted.is.are;
      kept = netted.is.kept ∙ c.is_text_requested-is_text_kept.ensures;
      begins = measured;
      whole = measured.whole;
      components = begun_components (g.T.InputFiles.gives c.args.texts.now) (path_of c.args.job.now.input.state) (initial_floor c.in_ok-loaded.field-0.loaded)
          c.in_ok-measured.measured.floor measured.begins;
    }

pub returns-in_err-loaded-clause-err : goal.returns-in_err-loaded-clause-err
returns-in_err-loaded-clause-err g c =
    let p = err_from_is_err_and c.from_residual.result c.from_residual.ensures.1 in
    rw (p.1, p.2) (inl (inl c.in_err-loaded.ensures.err))

pub returns-in_err-measured-clause-err : goal.returns-in_err-measured-clause-err
returns-in_err-measured-clause-err g c =
    let p = err_from_is_err_and c.from_residual-in_err-measured.result c.from_residual-in_err-measured.ensures.1 in
    let netted = c.in_ok-loaded.ensures.ok in
    let design = c.in_ok-loaded.field-0 in
    rw (p.1, p.2) (inl (inr (design.loaded, design_opened _ _ _ _ _ netted.is.document design.loaded (netted_opened _ _ _ _ _ design netted), c.in_err-measured.ensures.err)))

pub returns-in_err-netlist-clause-err : goal.returns-in_err-netlist-clause-err
returns-in_err-netlist-clause-err g c =
    let p = err_from_is_err_and c.from_residual-in_err-netlist.result c.from_residual-in_err-netlist.ensures.1 in
    rw (p.1, p.2) (nets_fail _ _ _ _ (path_of c.args.job.now.input.state) _ c.in_ok-loaded.field-0 _ c.in_ok-loaded.ensures.ok c.in_err-netlist.was)

pub returns-in_err-targets-clause-err : goal.returns-in_err-targets-clause-err
returns-in_err-targets-clause-err g c =
    let p = err_from_is_err_and c.from_residual-in_err-targets.result c.from_residual-in_err-targets.ensures.1 in
    rw (p.1, p.2) (memory_fails _ _ _ _ (path_of c.args.job.now.input.state) _ c.in_ok-loaded.field-0 _ c.in_ok-loaded.ensures.ok refl)
