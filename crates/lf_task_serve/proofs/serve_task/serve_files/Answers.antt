use Rattle.std.proofs.Common.{◌∙◌, inl, map, refl, sym}
use Rattle.std.proofs.lemmas.Result.{err_from_is_err_and}
use Rattle.lf_task_files.specs.Inputs.{path_of}
use Rattle.lf_task_files.proofs.KeptTexts.{is_given, not_requested}
use Rattle.lf_task_files.proofs.WorkSteps.{design_early, early_blames, step_fails, weaker_ok}
use Rattle.lf_task_serve.proofs.LineSteps.{still_sound, undone}
use Rattle.lf_task_serve.proofs.serve_task.serve_files.Goals as goal

pub serve_design-requires : goal.serve_design-requires
serve_design-requires g c =
    let is = c.in_ok-design.ensures.ok in
    record {
      ready = c.requires.ready;
      kept = not_requested c.in_ok-design.design.original (path_of c.args.outputs.export) (is.kept ∙ c.is_some-is_text_kept.ensures ∙ sym (is_given c.args.outputs.export));
      loads = record { limits = c.args.inputs.limits; library = is.opened.library; text = is.text; document = is.document; are = is.are; read = is.opened.read; loads = is.opened.loads };
    }

pub returns-clause-ok : goal.returns-clause-ok
returns-clause-ok g c =
    let is = c.in_ok-design.ensures.ok in
    weaker_ok c.serve_design.result _ _ (c.serve_design.ensures.ok is.text is.document is.are)
    (λ status on. (
      record {
        text = is.text;
        document = is.document;
        loaded = c.in_ok-design.design.loaded;
        opened = is.opened;
        begin = on.1.0;
        begins = on.1.1;
        finished = on.1.2;
      },
      on.0,
    ))

pub returns-clause-err : goal.returns-clause-err
returns-clause-err g c =
    let is = c.in_ok-design.ensures.ok in
    step_fails c.serve_design.result _ _ _ (c.serve_design.ensures.err is.text is.document is.are)
    (λ fault why. undone _ _ _ _ (path_of c.args.inputs.state) (path_of c.args.journal) (path_of c.args.outputs.save) (path_of c.args.outputs.export) c.args.lines is.text is.document
    c.in_ok-design.design.loaded fault _ is.opened why)

pub returns-in_err-design-clause-err : goal.returns-in_err-design-clause-err
returns-in_err-design-clause-err g c =
    let p = err_from_is_err_and c.from_residual.result c.from_residual.ensures.1 in
    let why = c.in_err-design.ensures.err in
    rw (p.1, p.2) (
      inl (inl (inl why, record { unread = refl; unwritten = refl; unput = refl; unaccepted = refl }), refl),
      early_blames _ _ _ _ _ _ _ refl (still_sound _) (design_early c.args.inputs.limits _ c.args.inputs.def.now (map (λ lef. lef.now) c.args.inputs.lefs.now) _ why),
    )
