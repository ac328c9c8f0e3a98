use Rattle.std.proofs.Common.{◌∙◌, ◌+◌, ap, inl, length, refl, Some, sym}
use Rattle.std.proofs.lemmas.Result.{err_from_is_err_and}
use Rattle.lf_floorplan.specs.declared.frame.Frame.{Frame}
use Rattle.lf_floor_model.specs.Designs.{initial_floor}
use Rattle.lf_task_files.specs.HeldTexts.{gives_text}
use Rattle.lf_task_files.proofs.Measuring.{begun_frame, begun_from_held, not_from_held}
use Rattle.lf_task_files.proofs.measured.measured_in_text.Goals as goal

pub returns-clause-ok : goal.returns-clause-ok
returns-clause-ok c =
    let gives = gives_text c.args.held.now.text.items in
    let path = c.args.path.now in
    let seen = c.in_ok-seen.seen in
    let floor = c.in_ok-floor.floor in
    record {
      begins = begun_from_held gives path c.args.loaded seen floor c.in_ok-seen.ensures.ok c.in_ok-floor.ensures.ok;
      whole =
          c.in_ok-floor.ensures.many
          ∙ ap (λ (f : Frame). length f.teams + 1) (sym (begun_frame gives (Some path) (initial_floor seen) floor c.in_ok-floor.ensures.ok));
      seen = seen;
      shown = c.in_ok-seen.ensures.ok;
      known = c.in_ok-limits.ensures;
    }

pub returns-in_err-limits-clause-err : goal.returns-in_err-limits-clause-err
returns-in_err-limits-clause-err c =
    let p = err_from_is_err_and c.from_residual-in_err-limits.result c.from_residual-in_err-limits.ensures.1 in
    rw (p.1, p.2) (inl refl)

pub returns-in_err-floor-clause-err : goal.returns-in_err-floor-clause-err
returns-in_err-floor-clause-err c =
    let gives = gives_text c.args.held.now.text.items in
    let p = err_from_is_err_and c.from_residual-in_err-floor.result c.from_residual-in_err-floor.ensures.1 in
    rw (p.1, p.2) (not_from_held gives c.args.path.now c.args.loaded c.in_ok-seen.seen _ c.in_ok-seen.ensures.ok c.in_err-floor.ensures.err)
