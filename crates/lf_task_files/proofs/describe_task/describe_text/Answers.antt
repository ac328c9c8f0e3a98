use Rattle.std.proofs.Common.{◌≡◌, ◌⊎◌, inr, refl}
use Rattle.std.specs.Prelude.{Ok}
use Rattle.std.proofs.lemmas.Result.{err_from_is_err_and}
use Rattle.lf_def.specs.Contents.{contents}
use Rattle.lf_def.specs.Document.{Document, document_of}
use Rattle.lf_floorplan.specs.declared.loaded.Loaded.{Loaded}
use Rattle.lf_task_faults.specs.declared.faults.TextKind.TheVariants.{Def}
use Rattle.lf_task_designs.specs.Designs.{IsDefRefusal, IsLoadRefusal, IsLoadedIn, IsRefusedText}
use Rattle.lf_task_files.specs.Exits.{IsViewNotDescribed}
use Rattle.lf_task_files.specs.States.{IsNotOpened}
use Rattle.lf_task_files.specs.Inputs.{path_of}
use Rattle.lf_task_files.proofs.WorkSteps.{first_fails, step_fails, unseen_early, unseen_fails, weaker_ok}
use Rattle.lf_task_files.proofs.describe_task.describe_text.Goals as goal

pub returns-clause-ok : goal.returns-clause-ok
returns-clause-ok g c =
    let is = c.in_ok-seen.ensures.ok in
    weaker_ok c.describe_loaded.result _ _ c.describe_loaded.ensures.ok
    (λ status shown. (contents c.in_ok-document.document, c.in_ok-document.ensures.ok, (is.0, is.1, (c.in_ok-seen.seen, is.2, shown))))

pub returns-clause-err : goal.returns-clause-err
returns-clause-err g c =
    let is = c.in_ok-seen.ensures.ok in
    step_fails c.describe_loaded.result _ _ _ c.describe_loaded.ensures.err
    (λ fault why. inr (contents c.in_ok-document.document, c.in_ok-document.ensures.ok, (is.0, is.1, inr (c.in_ok-seen.seen, is.2, why))))

pub returns-in_err-seen-clause-err : goal.returns-in_err-seen-clause-err
returns-in_err-seen-clause-err g c =
    let p = err_from_is_err_and c.from_residual-in_err-seen.result c.from_residual-in_err-seen.ensures.1 in
    let gives = g.T.InputFiles.gives c.args.texts.now in
    let state = path_of c.args.inputs.state in
    let text = c.args.text.now in
    let library = c.args.library.now in
    let def = c.args.inputs.def.now in
    let document = contents c.in_ok-document.document in
    let bytes = g.W.Sink.contents c.args.writer.now in
    rw (p.1, p.2) (first_fails (λ fault. IsRefusedText Def def text (IsLoadRefusal c.args.inputs.limits library document) fault
    ⊎ ((loaded : Loaded) × IsLoadedIn c.args.inputs.limits library document loaded × IsNotOpened gives state loaded fault))
    (λ fault. IsRefusedText Def def text (IsDefRefusal c.args.inputs.limits library text) fault
    ⊎ ((d : Document) × (document_of text ≡ Ok d) × ((loaded : Loaded) × IsLoadedIn c.args.inputs.limits library d loaded × IsViewNotDescribed gives state d loaded bytes bytes fault)))
    (c.args.writer.now ≡ c.args.writer.now) _ _ _ _ _ _ refl refl c.in_err-seen.ensures.err
    (unseen_early c.args.inputs.limits gives def library text document state)
    (λ fault. unseen_fails c.args.inputs.limits gives def library text document state bytes bytes fault c.in_ok-document.ensures.ok))
