use Rattle.std.proofs.Common.{inr, refl}
use Rattle.std.proofs.lemmas.Result.{err_from_is_err_and}
use Rattle.lf_task_serve.proofs.serve_task.serve_loaded.Goals as goal

pub returns-clause-ok : goal.returns-clause-ok
returns-clause-ok g c = ((c.serve_reader.new.floor, rw c.in_ok-floor.ensures at c.in_ok-serve_reader.ensures.ok), refl)

pub returns-in_err-serve_reader-clause-err : goal.returns-in_err-serve_reader-clause-err
returns-in_err-serve_reader-clause-err g c =
    let p = err_from_is_err_and c.from_residual-in_err-serve_reader.result c.from_residual-in_err-serve_reader.ensures.1 in
    let broken = rw c.in_ok-floor.ensures at c.in_err-serve_reader.ensures.err in
    rw (p.1, p.2) (inr broken.0, broken.1)
