use Rattle.std.proofs.Common.{◌∙◌, ap, inl, inr, map, refl, subst, sym, Option}
use Rattle.std.proofs.lemmas.Result.{IfErr-weaker, err_from_is_err_and}
use Rattle.std.specs.Prelude.{option_copied}
use Rattle.lf_task_designs.specs.declared.opening.SourceText.{SourceText}
use Rattle.lf_task_designs.specs.Designs.{AreKept}
use Rattle.lf_task_files.specs.Exits.{CanBePut}
use Rattle.lf_task_files.specs.Inputs.{path_of}
use Rattle.lf_task_files.proofs.KeptTexts.{can_be_put}
use Rattle.lf_task_files.proofs.WorkSteps.{early_blames, weaker_ok}
use Rattle.lf_task_journal.proofs.Early.{not_begun_early}
use Rattle.lf_task_serve.proofs.LineSteps.{still_sound}
use Rattle.lf_task_serve.proofs.serve_task.serve_design.Goals as goal

pub serve_floor-requires : goal.serve_floor-requires
serve_floor-requires g c =
    let design = c.args.design in
    let of = c.requires.loads in
    record {
      ready = c.requires.ready;
      kept = λ none. c.requires.kept (sym c.as_ref.ensures.value ∙ ap option_copied none);
      fits = λ s places same are.
          subst (λ (original : Option SourceText). CanBePut original places) (sym c.as_ref.ensures.value)
          (can_be_put design.original of.text of.document places of.are
          (c.kept_clauses_suffice.ensures.ready of.text of.document places of.read (c.loaded_cells_are_exportable.ensures _ design.loaded places of.loads
          (c.places_follow_design.ensures design.loaded s places
          (same ∙ c.in_ok-floor.ensures.components) are))));
    }

pub returns-clause-ok : goal.returns-clause-ok
returns-clause-ok g c = λ text document are.
    weaker_ok c.serve_floor.result _ _
    (c.serve_floor.ensures.ok text document (subst (λ (original : Option SourceText). AreKept original text document) (sym c.as_ref.ensures.value) are))
    (λ status is. (is.0, (c.in_ok-floor.floor, c.in_ok-floor.ensures.ok, is.1)))

pub returns-clause-err : goal.returns-clause-err
returns-clause-err g c = λ text document are.
    IfErr-weaker c.serve_floor.result _ _ (λ fault both. (inr (c.in_ok-floor.floor, c.in_ok-floor.ensures.ok, both.0), both.1))
    (c.serve_floor.ensures.err text document (subst (λ (original : Option SourceText). AreKept original text document) (sym c.as_ref.ensures.value) are))

pub returns-in_err-floor-clause-err : goal.returns-in_err-floor-clause-err
returns-in_err-floor-clause-err g c = λ text document are.
    let p = err_from_is_err_and c.from_residual.result c.from_residual.ensures.1 in
    rw (p.1, p.2) (
      inl (c.in_err-floor.ensures.err, record { unread = refl; unwritten = refl; unput = refl; unaccepted = refl }),
      early_blames _ _ _ _ _ _ _ refl (still_sound _)
          (not_begun_early c.args.inputs.limits (g.D.Texts.InputFiles.gives c.args.environment.now.texts) c.args.inputs.def.now (map (λ lef. lef.now) c.args.inputs.lefs.now)
          (path_of c.args.inputs.state) (path_of c.args.journal) c.args.design.loaded _ c.in_err-floor.ensures.err),
    )
