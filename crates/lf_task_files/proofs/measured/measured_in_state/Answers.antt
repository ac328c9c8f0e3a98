use Rattle.std.proofs.Common.{inl, inr}
use Rattle.std.proofs.lemmas.Result.{IfErr-weaker, IfOk-weaker, err_from_is_err_and}
use Rattle.lf_floor_model.specs.Designs.{initial_floor}
use Rattle.lf_task_files.proofs.Measuring.{not_of_held, state_of_held, viewed_of_held}
use Rattle.lf_task_files.proofs.measured.measured_in_state.Goals as goal

pub returns-clause-ok : goal.returns-clause-ok
returns-clause-ok g c =
    let gives = g.T.InputFiles.gives c.args.texts.now in
    let path = c.args.path.now in
    let text = c.in_ok-text.text.items in
    let given = rw c.state_file.ensures.path at c.in_ok-text.ensures.ok in
    let design = c.args.loaded in
    IfOk-weaker c.measured_in_text.result _ _
    (λ made is. record {
      begins = state_of_held gives path text (initial_floor design) made.floor given is.begins;
      whole = is.whole;
      seen = is.seen;
      shown = viewed_of_held gives path text design is.seen given is.shown;
      known = is.known;
    })
    c.measured_in_text.ensures.ok

pub returns-clause-err : goal.returns-clause-err
returns-clause-err g c =
    let gives = g.T.InputFiles.gives c.args.texts.now in
    let given = rw c.state_file.ensures.path at c.in_ok-text.ensures.ok in
    IfErr-weaker c.measured_in_text.result _ _
    (λ fault why. not_of_held gives c.args.path.now c.in_ok-text.text.items c.args.loaded fault given why)
    c.measured_in_text.ensures.err

pub returns-in_err-text-clause-err : goal.returns-in_err-text-clause-err
returns-in_err-text-clause-err g c =
    let p = err_from_is_err_and c.from_residual.result c.from_residual.ensures.1 in
    rw (p.1, p.2) (inr (inl (rw (c.state_file.ensures.kind, c.state_file.ensures.path) at c.in_err-text.ensures.err)))
