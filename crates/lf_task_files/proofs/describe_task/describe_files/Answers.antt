use Rattle.std.proofs.Common.{◌≡◌, ◌⊎◌, inl, map, refl}
use Rattle.std.proofs.lemmas.Result.{err_from_is_err_and}
use Rattle.lf_task_designs.specs.Designs.{IsDesignFault, IsLibraryFault, no_library}
use Rattle.lf_task_files.specs.Exits.{IsOpenUndescribed}
use Rattle.lf_task_files.specs.Inputs.{path_of}
use Rattle.lf_task_files.proofs.WorkSteps.{files_fail, first_fails, library_early, step_fails, weaker_ok}
use Rattle.lf_task_files.proofs.describe_task.describe_files.Goals as goal

pub returns-clause-ok : goal.returns-clause-ok
returns-clause-ok g c =
    weaker_ok c.describe_file.result _ _ c.describe_file.ensures.ok
    (λ status is. record {
      text = is.0;
      document = is.2.0;
      loaded = is.2.2.0;
      opened = record { library = c.in_ok-library.library; lefs_are = c.in_ok-library.ensures.ok; given = is.1; read = is.2.1; loads = is.2.2.1 };
      shown = is.2.2.2;
    })

pub returns-clause-err : goal.returns-clause-err
returns-clause-err g c =
    step_fails c.describe_file.result _ _ _ c.describe_file.ensures.err
    (λ fault why. files_fail c.args.inputs.limits (g.T.InputFiles.gives c.args.texts.now) c.args.inputs.def.now (map (λ lef. lef.now) c.args.inputs.lefs.now)
    (path_of c.args.inputs.state) c.in_ok-library.library
    (g.W.Sink.contents c.args.writer.now) (g.W.Sink.contents c.describe_file.new.writer) fault c.in_ok-library.ensures.ok why)

pub returns-in_err-library-clause-err : goal.returns-in_err-library-clause-err
returns-in_err-library-clause-err g c =
    let p = err_from_is_err_and c.from_residual.result c.from_residual.ensures.1 in
    let gives = g.T.InputFiles.gives c.args.texts.now in
    let lefs = map (λ lef. lef.now) c.args.inputs.lefs.now in
    rw (p.1, p.2) (first_fails (IsLibraryFault gives no_library lefs)
    (λ fault. IsDesignFault c.args.inputs.limits gives c.args.inputs.def.now lefs fault
    ⊎ IsOpenUndescribed c.args.inputs.limits gives c.args.inputs.def.now lefs (path_of c.args.inputs.state) (g.W.Sink.contents c.args.writer.now) (g.W.Sink.contents c.args.writer.now) fault)
    (c.args.writer.now ≡ c.args.writer.now) _ _ _ _ _ _ refl refl c.in_err-library.ensures.err (library_early gives no_library lefs) (λ fault why. inl (inl why)))
