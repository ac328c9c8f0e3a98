use Rattle.std.proofs.Common.{inl, inr}
use Rattle.lf_task_files.specs.Faults.{IsDone, IsFailure}
use Rattle.lf_app.proofs.TaskSteps.{checked, ends_with_status, failing, not_both, succeeds}
use Rattle.lf_task_files.proofs.WorkSteps.{blames_as}
use Rattle.lf_app.proofs.tasks.perform_over.Goals as goal

pub returns-in-Ok : goal.returns-in-Ok
returns-in-Ok g c =
    let status = c.exit_with.result.status in
    let is = ends_with_status _ _ _ _ status c.exit_with.ensures.status c.in-Ok.ensures.ok in
    let succeeded : IsDone status = succeeds _ _ _ status is in
    record {
      status = inl succeeded;
      outcome = λ _. is;
      done = λ _. c.in-Ok.ensures.unreported;
      reported = λ _. c.exit_with.ensures.reported;
      fault = λ failed. absurd (not_both status succeeded failed);
      checked = checked _ c.args.task.now _ status is;
      unread = c.in-Ok.ensures.unread;
      unput = λ none failed. absurd (not_both status succeeded failed);
      unasked = c.in-Ok.ensures.unasked;
      offered = λ _. c.in-Ok.ensures.offered;
      unoffered = c.in-Ok.ensures.unoffered;
      silent = c.in-Ok.ensures.silent;
      texts = c.in-Ok.ensures.texts;
      reader_held = c.in-Ok.ensures.keeps.reader_held;
      writer_held = c.in-Ok.ensures.keeps.writer_held;
      faults_held = cc c.in-Ok.ensures.unreported;
    }

pub returns-in-Err : goal.returns-in-Err
returns-in-Err g c =
    let status = c.report_fault.result.status in
    let failed : IsFailure status = failing c.in-Err.fault status c.report_fault.ensures.ends.status in
    record {
      status = inr failed;
      outcome = λ succeeded. absurd (not_both status succeeded failed);
      done = λ succeeded. absurd (not_both status succeeded failed);
      reported = λ succeeded. absurd (not_both status succeeded failed);
      fault = λ _. (
        c.in-Err.fault,
        (
          c.in-Err.ensures.err.0,
          blames_as c.in-Err.fault _ _ _ _ _ _ _ _ _ _ _ _ c.in-Err.ensures.err.1 (λ k. k) (λ r. r) (λ w. w) (λ e. e) (λ s. s)
              (λ sound. record { exports = sound.exports; services = sound.services; reader = sound.reader; writer = sound.writer }),
        ),
        (rw c.in-Err.ensures.unreported at c.report_fault.ensures.ends),
      );
      checked = λ four. absurd (not_both status (inr four) failed);
      unread = c.in-Err.ensures.unread;
      unput = λ none failed. c.in-Err.ensures.unput none;
      unasked = c.in-Err.ensures.unasked;
      offered = λ succeeded. absurd (not_both status succeeded failed);
      unoffered = c.in-Err.ensures.unoffered;
      silent = c.in-Err.ensures.silent;
      texts = c.in-Err.ensures.texts;
      reader_held = c.in-Err.ensures.keeps.reader_held;
      writer_held = c.in-Err.ensures.keeps.writer_held;
      faults_held = cc (c.in-Err.ensures.unreported, c.report_fault.ensures.faults_held);
    }
