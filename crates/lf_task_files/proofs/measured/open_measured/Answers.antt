use Rattle.std.proofs.Common.{inl, refl}
use Rattle.std.proofs.lemmas.Result.{IfErr-weaker, IfOk-weaker}
use Rattle.lf_task_files.proofs.measured.open_measured.Goals as goal

pub returns-in-None-clause-ok : goal.returns-in-None-clause-ok
returns-in-None-clause-ok g c =
    rw c.in-None.is (IfOk-weaker c.measured_as_loaded.result _ _
    (λ made is. record { begins = is.begins; whole = is.whole; seen = c.args.loaded; shown = refl; known = is.known })
    c.measured_as_loaded.ensures.ok)

pub returns-in-None-clause-err : goal.returns-in-None-clause-err
returns-in-None-clause-err g c =
    rw c.in-None.is (IfErr-weaker c.measured_as_loaded.result _ _ (λ fault is. inl is) c.measured_as_loaded.ensures.err)
