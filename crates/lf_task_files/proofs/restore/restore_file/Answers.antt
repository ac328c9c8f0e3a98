use Rattle.std.proofs.Common.{inl, inr, refl}
use Rattle.lf_state_text.specs.Saved.{team_views}
use Rattle.lf_task_files.proofs.restore.restore_file.Goals as goal

pub returns-in-Ok-clause-ok : goal.returns-in-Ok-clause-ok
returns-in-Ok-clause-ok g c =
    let reported = c.in_ok-rows.ensures.ok in
    (reported.0, reported.1, (team_views c.in_ok-rows.rows.items, reported.2, c.in-Ok.ensures.restored))

pub returns-in-Err-clause-err : goal.returns-in-Err-clause-err
returns-in-Err-clause-err g c =
    let reported = c.in_ok-rows.ensures.ok in
    inr (reported.0, reported.1, inl refl)
