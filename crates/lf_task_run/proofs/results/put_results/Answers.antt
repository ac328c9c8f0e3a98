use Rattle.std.proofs.Common.{inl, inr, refl}
use Rattle.std.proofs.lemmas.Result.{err_from_is_err_and}
use Rattle.lf_task_run.proofs.Ends.{output_blames}
use Rattle.lf_task_files.proofs.WorkSteps.{export_blames}
use Rattle.lf_task_run.proofs.results.put_results.Goals as goal

pub returns-clause-ok : goal.returns-clause-ok
returns-clause-ok g c = λ text document kept.
    record { reported = rw c.as_slice.ensures.value at c.in_ok-put_report.ensures.ok; written = c.in_ok-put_files.ensures.ok text document kept }

pub returns-in_err-put_report-clause-err : goal.returns-in_err-put_report-clause-err
returns-in_err-put_report-clause-err g c = λ text document kept.
    let p = err_from_is_err_and c.from_residual.result c.from_residual.ensures.1 in
    rw (p.1, p.2) (inl (c.in_err-put_report.ensures.err, rw c.as_slice.ensures.value at c.in_err-put_report.ensures.prefix, refl))

pub returns-in_err-put_report-clause-blames : goal.returns-in_err-put_report-clause-blames
returns-in_err-put_report-clause-blames g c =
    let p = err_from_is_err_and c.from_residual.result c.from_residual.ensures.1 in
    rw (p.1, p.2) (output_blames _ _ _ _ _ _ _ c.in_err-put_report.ensures.err c.in_err-put_report.ensures.failed)

pub returns-in_err-put_files-clause-err : goal.returns-in_err-put_files-clause-err
returns-in_err-put_files-clause-err g c = λ text document kept.
    let p = err_from_is_err_and c.from_residual-in_err-put_files.result c.from_residual-in_err-put_files.ensures.1 in
    rw (p.1, p.2) (inr (rw c.as_slice.ensures.value at c.in_ok-put_report.ensures.ok, c.in_err-put_files.ensures.err text document kept))

pub returns-in_err-put_files-clause-blames : goal.returns-in_err-put_files-clause-blames
returns-in_err-put_files-clause-blames g c =
    let p = err_from_is_err_and c.from_residual-in_err-put_files.result c.from_residual-in_err-put_files.ensures.1 in
    rw (p.1, p.2) (
    export_blames _ _ _ _ _ _ _ _ _ c.in_err-put_files.ensures.fails (λ fails. fails) (λ same. (c.in_ok-put_report.ensures.healthy, same))
    )
