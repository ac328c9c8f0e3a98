use Rattle.std.proofs.Common.{inr}
use Rattle.std.proofs.lemmas.Result.{err_from_is_err_and}
use Rattle.lf_task_journal.proofs.begin.begin_floor.Goals as goal

pub returns-clause-ok : goal.returns-clause-ok
returns-clause-ok g c = record { opened = c.in_ok-floor.floor; opens = c.in_ok-floor.ensures.ok; runs = c.in_ok-run_given.ensures.ok }

pub returns-in_err-run_given-clause-err : goal.returns-in_err-run_given-clause-err
returns-in_err-run_given-clause-err g c =
    let p = err_from_is_err_and c.from_residual-in_err-run_given.result c.from_residual-in_err-run_given.ensures.1 in
    rw (p.1, p.2) (inr (c.in_ok-floor.floor, c.in_ok-floor.ensures.ok, c.in_err-run_given.ensures.err))
