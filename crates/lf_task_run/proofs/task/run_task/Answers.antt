use Rattle.std.proofs.Common.{◌∙◌, ℕ, List, Option, ap, inl, inr, refl, subst, sym}
use Rattle.std.proofs.lemmas.Result.{err_from_is_err_and}
use Rattle.std.specs.Prelude.{option_copied}
use Rattle.lf_task_designs.specs.declared.opening.SourceText.{SourceText}
use Rattle.lf_task_designs.specs.Designs.{AreKept}
use Rattle.lf_io.specs.Shelf.{Put}
use Rattle.lf_task_files.specs.Exits.{CanBePut}
use Rattle.lf_task_files.proofs.KeptTexts.{can_be_put}
use Rattle.lf_task_files.proofs.WorkSteps.{blames_as, early_blames, export_blames}
use Rattle.lf_task_run.specs.Commands.{kept_text}
use Rattle.lf_task_run.specs.Outputs.{IsNotPut, IsPut}
use Rattle.lf_task_run.specs.Tasks.{IsWorkDone, request_of}
use Rattle.lf_task_run.proofs.Ends.{no_text, no_work, not_put, unknown_early}
use Rattle.lf_task_run.proofs.task.run_task.Goals as goal

pub run-requires : goal.run-requires
run-requires g c = record { whole = c.in_ok-begun.ensures.ok.whole; ready = c.in_ok-begun.ensures.ready; known = c.in_ok-all_known.ensures.ok }

pub put_results-requires : goal.put_results-requires
put_results-requires g c =
    let is = c.in_ok-begun.ensures.ok in
    let begun = c.in_ok-begun.begun in
    let value = c.as_ref-original.ensures.value in
    record {
      kept = λ none. no_text begun.original (request_of c.args.job.now).files is.kept (sym value ∙ ap option_copied none);
      fits = λ s places same are.
          subst (λ (original : Option SourceText). CanBePut original places) (sym value)
          (can_be_put begun.original is.text is.document places is.are
          (c.kept_clauses_suffice.ensures.ready is.text is.document places is.opened.read
          (c.loaded_cells_are_exportable.ensures _ is.loaded places is.opened.loads
          (c.places_follow_design.ensures is.loaded s places (same ∙ c.in_ok-results.ensures.ok.only.components ∙ is.components) are))));
    }

pub returns-clause-ok : goal.returns-clause-ok
returns-clause-ok g c =
    let is = c.in_ok-begun.ensures.ok in
    let begun = c.in_ok-begun.begun in
    let job = request_of c.args.job.now in
    let floor = c.run.new.floor in
    let kept = kept_text c.in_ok-results.results.lines in
    let report = c.in_ok-results.results.report.items in
    record {
      text = is.text;
      document = is.document;
      loaded = is.loaded;
      opened = is.opened;
      begin = begun.floor;
      with = begun.opened;
      begins = is.begins;
      floor = floor;
      kept = kept;
      report = report;
      done = subst (λ (n : ℕ). IsWorkDone (g.K.Work.means c.args.work.now) job begun.opened begun.floor floor kept report n)
          (sym c.in_ok-status.ensures.status) c.in_ok-results.ensures.ok;
      put = subst (λ (puts : Option (List Put)). IsPut job.files is.text is.document floor kept report (g.W.Sink.contents c.args.writer.now)
          (g.W.Sink.contents c.put_results.new.writer) puts (g.E.OutputFiles.puts c.put_results.new.exports)) c.try_files.ensures.unput
          (c.in_ok-status.ensures.ok is.text is.document (subst (λ (original : Option SourceText). AreKept original is.text is.document) (sym c.as_ref-original.ensures.value) is.are));
    }

pub returns-in_err-status-clause-err : goal.returns-in_err-status-clause-err
returns-in_err-status-clause-err g c =
    let p = err_from_is_err_and c.from_residual-in_err-status.result c.from_residual-in_err-status.ensures.1 in
    let is = c.in_ok-begun.ensures.ok in
    let begun = c.in_ok-begun.begun in
    let job = request_of c.args.job.now in
    let floor = c.run.new.floor in
    let kept = kept_text c.in_ok-results.results.lines in
    let report = c.in_ok-results.results.report.items in
    rw (p.1, p.2) (
      not_put (g.K.Work.means c.args.work.now) (g.T.InputFiles.gives c.args.texts.now) job begun is _ _ _ _ _ floor kept report c.in_ok-results.results.status
          c.in_ok-results.ensures.ok
          (subst (λ (puts : Option (List Put)). IsNotPut job.files is.text is.document floor kept report (g.W.Sink.contents c.args.writer.now)
          (g.W.Sink.contents c.put_results.new.writer) puts (g.E.OutputFiles.puts c.put_results.new.exports) c.in_err-status.field-0.0) c.try_files.ensures.unput
          (c.in_err-status.ensures.err is.text is.document (subst (λ (original : Option SourceText). AreKept original is.text is.document) (sym c.as_ref-original.ensures.value) is.are))),
      blames_as _ _ _ _ _ _ _ _ _ _ _ _ _ c.in_err-status.ensures.blames (λ k. k) (λ r. r) (λ w. w) (λ e. e) (λ s. s)
          (λ sound. (sound.0, sound.1 ∙ c.in_ok-try_files.ensures.sound)),
    )

pub returns-in_err-begun-clause-err : goal.returns-in_err-begun-clause-err
returns-in_err-begun-clause-err g c =
    let p = err_from_is_err_and c.from_residual.result c.from_residual.ensures.1 in
    rw (p.1, p.2) (
      inl (c.in_err-begun.ensures.err, refl, refl),
      early_blames _ _ _ _ _ _ _ refl (refl, refl) c.in_err-begun.ensures.early,
    )

pub returns-in_err-all_known-clause-err : goal.returns-in_err-all_known-clause-err
returns-in_err-all_known-clause-err g c =
    let p = err_from_is_err_and c.from_residual-in_err-all_known.result c.from_residual-in_err-all_known.ensures.1 in
    rw (p.1, p.2) (
      no_work (g.K.Work.means c.args.work.now) (g.T.InputFiles.gives c.args.texts.now) (request_of c.args.job.now) c.in_ok-begun.begun c.in_ok-begun.ensures.ok _ _ _ _ _
          (inl c.in_err-all_known.ensures.err) refl refl,
      early_blames _ _ _ _ _ _ _ refl (refl, refl)
          (unknown_early c.in_ok-begun.begun.floor.frame (request_of c.args.job.now).teams _ c.in_err-all_known.ensures.err),
    )

pub returns-in_err-try_files-clause-err : goal.returns-in_err-try_files-clause-err
returns-in_err-try_files-clause-err g c =
    let p = err_from_is_err_and c.from_residual-in_err-try_files.result c.from_residual-in_err-try_files.ensures.1 in
    rw (p.1, p.2) (
      no_work (g.K.Work.means c.args.work.now) (g.T.InputFiles.gives c.args.texts.now) (request_of c.args.job.now) c.in_ok-begun.begun c.in_ok-begun.ensures.ok _ _ _ _ _
          (inr (inl c.in_err-try_files.ensures.err)) refl c.try_files.ensures.unput,
      export_blames _ _ _ _ _ _ _ _ _ c.in_err-try_files.ensures.fails (λ fails. fails) (λ same. (refl, same)),
    )

pub returns-in_err-results-clause-err : goal.returns-in_err-results-clause-err
returns-in_err-results-clause-err g c =
    let p = err_from_is_err_and c.from_residual-in_err-results.result c.from_residual-in_err-results.ensures.1 in
    rw (p.1, p.2) (
      no_work (g.K.Work.means c.args.work.now) (g.T.InputFiles.gives c.args.texts.now) (request_of c.args.job.now) c.in_ok-begun.begun c.in_ok-begun.ensures.ok _ _ _ _ _
          (inr (inr c.in_err-results.ensures.err)) refl c.try_files.ensures.unput,
      early_blames _ _ _ _ _ _ _ refl (refl, c.in_ok-try_files.ensures.sound) c.in_err-results.ensures.early,
    )

pub returns-in_err-status-clause-unput : goal.returns-in_err-status-clause-unput
returns-in_err-status-clause-unput g c = λ alone.
    let p = err_from_is_err_and c.from_residual-in_err-status.result c.from_residual-in_err-status.ensures.1 in
    rw p.1 (c.in_err-status.ensures.unput alone ∙ c.try_files.ensures.unput)
