use Rattle.std.proofs.Common.{◌≡◌, ◌+◌, length, refl, subst, sym}
use Rattle.std.proofs.lemmas.Result.{err_from_is_err_and}
use Rattle.lf_floor_model.specs.States.{FloorState}
use Rattle.lf_floor_model.proofs.Openings.{opening_whole}
use Rattle.lf_task_files.proofs.measured.measured_as_loaded.Goals as goal

pub returns-clause-ok : goal.returns-clause-ok
returns-clause-ok c = record {
  begins = c.in_ok-floor.ensures;
  whole = subst (λ (f : FloorState). length f.teams ≡ length f.frame.teams + 1) (sym c.in_ok-floor.ensures) (opening_whole c.args.loaded).0;
  known = c.in_ok-limits.ensures;
}

pub returns-in_err-limits-clause-err : goal.returns-in_err-limits-clause-err
returns-in_err-limits-clause-err c =
    let p = err_from_is_err_and c.from_residual.result c.from_residual.ensures.1 in
    rw (p.1, p.2) refl

pub returns-in_err-floor-clause-err : goal.returns-in_err-floor-clause-err
returns-in_err-floor-clause-err c =
    let p = err_from_is_err_and c.from_residual-in_err-floor.result c.from_residual-in_err-floor.ensures.1 in
    rw (p.1, p.2) refl
