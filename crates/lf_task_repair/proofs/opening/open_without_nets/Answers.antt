use Rattle.std.proofs.Common.{◌∙◌, inl, inr}
use Rattle.std.proofs.lemmas.Result.{err_from_is_err_and}
use Rattle.lf_floor_model.specs.Designs.{initial_floor}
use Rattle.lf_task_files.specs.Inputs.{path_of}
use Rattle.lf_task_files.proofs.Measuring.{begun_components}
use Rattle.lf_task_files.proofs.WorkSteps.{design_opened}
use Rattle.lf_task_repair.proofs.opening.open_without_nets.Goals as goal

pub returns-clause-ok : goal.returns-clause-ok
returns-clause-ok g c =
    let of = c.in_ok-opened.ensures.ok in
    let measured = c.in_ok-measured.ensures.ok in
    record {
      text = of.text;
      document = of.document;
      loaded = c.in_ok-opened.opened.loaded;
      opened = of.opened;
      are = of.are;
      kept = of.kept ∙ c.is_text_requested.ensures;
      begins = measured;
      whole = measured.whole;
      components = begun_components (g.T.InputFiles.gives c.args.texts.now) (path_of c.args.job.now.input.state) (initial_floor c.in_ok-opened.opened.loaded)
          c.in_ok-measured.measured.floor measured.begins;
    }

pub returns-in_err-opened-clause-err : goal.returns-in_err-opened-clause-err
returns-in_err-opened-clause-err g c =
    let p = err_from_is_err_and c.from_residual.result c.from_residual.ensures.1 in
    rw (p.1, p.2) (inl c.in_err-opened.ensures.err)

pub returns-in_err-measured-clause-err : goal.returns-in_err-measured-clause-err
returns-in_err-measured-clause-err g c =
    let p = err_from_is_err_and c.from_residual-in_err-measured.result c.from_residual-in_err-measured.ensures.1 in
    let of = c.in_ok-opened.ensures.ok in
    rw (p.1, p.2) (inr (c.in_ok-opened.opened.loaded, design_opened _ _ _ _ _ of.document c.in_ok-opened.opened.loaded of.opened, c.in_err-measured.ensures.err))
