use Rattle.std.proofs.Common.{◌≡◌, ◌∙◌, None, false, refl, subst, sym, true}
use Rattle.lf_task_serve.specs.Lines.{default_most_lines}
use Rattle.lf_task_serve.specs.Work.{AreAnswered, IsServingFault}
use Rattle.lf_task_serve.specs.declared.line_source.LineSource.TheVariants.{Port, Reader}
use Rattle.lf_task_serve.proofs.Answering.{streams_blame}
use Rattle.lf_task_files.proofs.WorkSteps.{also_fails, blames_as, writer_blames}
use Rattle.lf_task_run.specs.Outputs.{BlamesOutputs, WritesExportAlone, WritesNoFile}
use Rattle.lf_task_run.specs.Tasks.{request_of}
use Rattle.lf_task_repair.specs.Repairs.{repair_means}
use Rattle.lf_task_improve.specs.Works.{improve_means}
use Rattle.lf_app.proofs.TaskSteps.{done_at, hub_blames, not_done_at, requested_at, sound_by, stops_untouched, undone_at}
use Rattle.lf_app.proofs.tasks.outcome_within.Goals as goal

pub returns-in-Replay-clause-ok : goal.returns-in-Replay-clause-ok
returns-in-Replay-clause-ok g c =
    let i = rw c.in-Replay.is at c.input_of-inputs.ensures in
    let o = rw c.in-Replay.is at c.outputs_of.ensures in
    rw c.in-Replay.is (rw (i.def_is, i.lefs_are, i.state_is, i.limits_are, o.save_is, o.export_is) at c.serve_files.ensures.ok)

pub returns-in-Replay-clause-err : goal.returns-in-Replay-clause-err
returns-in-Replay-clause-err g c =
    let i = rw c.in-Replay.is at c.input_of-inputs.ensures in
    let o = rw c.in-Replay.is at c.outputs_of.ensures in
    let lines = Reader c.in-Replay.lines in
    rw c.in-Replay.is (undone_at _ _ (g.D.Texts.InputFiles.gives c.args.environment.now.texts) _ _ _ _ _ _ _ _ _ _ _ (IsServingFault lines) (AreAnswered lines) _ c.serve_files.result _
    i.def_is i.lefs_are i.state_is i.limits_are o.save_is o.export_is c.serve_files.ensures.err)

pub returns-in-Serve-clause-ok : goal.returns-in-Serve-clause-ok
returns-in-Serve-clause-ok g c =
    let i = rw c.in-Serve.is at c.input_of-inputs.ensures in
    let o = rw c.in-Serve.is at c.outputs_of-in-Serve.ensures in
    rw c.in-Serve.is (rw (i.def_is, i.lefs_are, i.state_is, i.limits_are, o.save_is, o.export_is) at c.serve_files-in-Serve.ensures.ok)

pub returns-in-Serve-clause-err : goal.returns-in-Serve-clause-err
returns-in-Serve-clause-err g c =
    let i = rw c.in-Serve.is at c.input_of-inputs.ensures in
    let o = rw c.in-Serve.is at c.outputs_of-in-Serve.ensures in
    let lines = Port c.in-Serve.port c.in-Serve.connections in
    rw c.in-Serve.is (undone_at _ _ (g.D.Texts.InputFiles.gives c.args.environment.now.texts) _ _ _ _ _ _ None _ _ _ _ (IsServingFault lines) (AreAnswered lines) _ c.serve_files-in-Serve.result _
    i.def_is i.lefs_are i.state_is i.limits_are o.save_is o.export_is
    (also_fails c.serve_files-in-Serve.result _ _ _ c.serve_files-in-Serve.ensures.err
    (λ fault blames. blames_as fault _ _ _ _ _ _ _ _ _ _ _ _ blames (λ k. k) (λ none. absurd none) (λ w. w) (λ e. e) (λ s. s) (λ n. n))))

pub returns-in-Hub-clause-ok : goal.returns-in-Hub-clause-ok
returns-in-Hub-clause-ok g c =
    let i = rw c.in-Hub.is at c.input_of-inputs.ensures in
    rw c.in-Hub.is (rw (c.hub_at-input.ensures.design, i.def_is, i.lefs_are, i.state_is, i.limits_are) at c.serve_hub_files.ensures.ok)

pub returns-in-Hub-clause-err : goal.returns-in-Hub-clause-err
returns-in-Hub-clause-err g c =
    let i = rw c.in-Hub.is at c.input_of-inputs.ensures in
    rw c.in-Hub.is (also_fails c.serve_hub_files.result _ _ _
    (rw (c.hub_at-input.ensures.design, i.def_is, i.lefs_are, i.state_is, i.limits_are) at c.serve_hub_files.ensures.err)
    (λ fault of. hub_blames _ _ _ _ _ _ fault refl (record { exports = refl; services = refl; reader = refl; writer = refl }) of))

pub returns-in-Check-clause-ok : goal.returns-in-Check-clause-ok
returns-in-Check-clause-ok g c =
    let i = rw c.in-Check.is at c.input_of-inputs.ensures in
    rw c.in-Check.is (rw (i.def_is, i.lefs_are, i.state_is, i.limits_are) at c.check.ensures.ok)

pub returns-in-Check-clause-err : goal.returns-in-Check-clause-err
returns-in-Check-clause-err g c =
    let i = rw c.in-Check.is at c.input_of-inputs.ensures in
    rw c.in-Check.is (stops_untouched c.check.result _ _ _ _ _ _ (rw (i.def_is, i.lefs_are, i.state_is, i.limits_are) at c.check.ensures.err)
    (λ same. record { unread = refl; unwritten = same; unput = refl; unaccepted = refl })
    (λ fault blames. writer_blames fault _ _ _ _ _ _ _ _ blames (λ k. k) (λ same. record { exports = refl; services = refl; reader = refl; writer = same })))

pub returns-in-Describe-clause-ok : goal.returns-in-Describe-clause-ok
returns-in-Describe-clause-ok g c =
    let i = rw c.in-Describe.is at c.input_of-inputs.ensures in
    rw c.in-Describe.is (rw (i.def_is, i.lefs_are, i.state_is, i.limits_are) at c.describe_files.ensures.ok)

pub returns-in-Describe-clause-err : goal.returns-in-Describe-clause-err
returns-in-Describe-clause-err g c =
    let i = rw c.in-Describe.is at c.input_of-inputs.ensures in
    rw c.in-Describe.is (also_fails c.describe_files.result _ _ _ (rw (i.def_is, i.lefs_are, i.state_is, i.limits_are) at c.describe_files.ensures.err)
    (λ fault blames. writer_blames fault _ _ _ _ _ _ _ _ blames (λ k. k) (λ same. record { exports = refl; services = refl; reader = refl; writer = same })))

pub returns-in-Wirelength-clause-ok : goal.returns-in-Wirelength-clause-ok
returns-in-Wirelength-clause-ok g c =
    let i = rw c.in-Wirelength.is at c.input_of-inputs.ensures in
    rw c.in-Wirelength.is (rw (i.def_is, i.lefs_are, i.state_is, i.limits_are) at c.wirelength.ensures.ok)

pub returns-in-Wirelength-clause-err : goal.returns-in-Wirelength-clause-err
returns-in-Wirelength-clause-err g c =
    let i = rw c.in-Wirelength.is at c.input_of-inputs.ensures in
    rw c.in-Wirelength.is (also_fails c.wirelength.result _ _ _ (rw (i.def_is, i.lefs_are, i.state_is, i.limits_are) at c.wirelength.ensures.err)
    (λ fault blames. writer_blames fault _ _ _ _ _ _ _ _ blames (λ k. k) (λ same. record { exports = refl; services = refl; reader = refl; writer = same })))

pub returns-in-Replay-clause-unput : goal.returns-in-Replay-clause-unput
returns-in-Replay-clause-unput g c = λ alone.
    let none = rw c.in-Replay.is at alone in
    let o = rw c.in-Replay.is at c.outputs_of.ensures in
    c.serve_files.ensures.leaves.unput (o.save_is ∙ none.save)

pub returns-in-Serve-clause-unput : goal.returns-in-Serve-clause-unput
returns-in-Serve-clause-unput g c = λ alone.
    let none = rw c.in-Serve.is at alone in
    let o = rw c.in-Serve.is at c.outputs_of-in-Serve.ensures in
    c.serve_files-in-Serve.ensures.leaves.unput (o.save_is ∙ none.save)

pub returns-in-Replay-clause-unasked : goal.returns-in-Replay-clause-unasked
returns-in-Replay-clause-unasked g c = λ asks.
    let none = rw c.in-Replay.is at asks in
    let o = rw c.in-Replay.is at c.outputs_of.ensures in
    c.serve_files.ensures.leaves.unasked (o.save_is ∙ none.save) (o.export_is ∙ none.export)

pub returns-in-Serve-clause-unasked : goal.returns-in-Serve-clause-unasked
returns-in-Serve-clause-unasked g c = λ asks.
    let none = rw c.in-Serve.is at asks in
    let o = rw c.in-Serve.is at c.outputs_of-in-Serve.ensures in
    c.serve_files-in-Serve.ensures.leaves.unasked (o.save_is ∙ none.save) (o.export_is ∙ none.export)

pub returns-in-Demo-clause-err : goal.returns-in-Demo-clause-err
returns-in-Demo-clause-err g c =
    rw c.in-Demo.is (stops_untouched c.demo.result _ _ _ _ _ _ c.demo.ensures.err
    (λ same. record { unread = same.unread; unwritten = same.unwritten; unput = refl; unaccepted = refl })
    (λ fault blames. streams_blame default_most_lines fault _ _ _ _ _ _ _ _ blames
    (λ sound. record { exports = refl; services = refl; reader = sound.0 ∙ sym c.requires.ready.readable; writer = sound.1 ∙ sym c.requires.ready.writable })))

pub returns-in-Repair-clause-ok : goal.returns-in-Repair-clause-ok
returns-in-Repair-clause-ok g c =
    let i = rw c.in-Repair.is at c.input_of-inputs.ensures in
    let job = c.job_of-job in
    let ok = done_at _ _ _ _ (requested_at _ _ _ _ _ _ _ _ job.result i job.ensures.input (job.ensures.teams ∙ c.as_slice-in-Repair.ensures) refl job.ensures.files) c.run_task.result _ _ _ _ c.run_task.ensures.ok in
    rw c.in-Repair.is (rw c.repair_of-work.ensures at ok)

pub returns-in-Repair-clause-err : goal.returns-in-Repair-clause-err
returns-in-Repair-clause-err g c =
    let i = rw c.in-Repair.is at c.input_of-inputs.ensures in
    let job = c.job_of-job in
    let err = not_done_at (repair_means c.repair_of-work.result.options) (g.D.Texts.InputFiles.gives c.args.environment.now.texts) (request_of job.result) _ (requested_at _ _ _ _ _ _ _ _ job.result i job.ensures.input (job.ensures.teams ∙ c.as_slice-in-Repair.ensures) refl job.ensures.files) c.run_task.result
    (g.D.Writer.Sink.contents c.args.environment.now.writer) (g.D.Writer.Sink.contents c.run_task.new.writer)
    (g.D.Exports.OutputFiles.puts c.args.environment.now.exports) (g.D.Exports.OutputFiles.puts c.run_task.new.exports)
    (c.run_task.new.writer ≡ c.args.environment.now.writer) (g.D.Writer.Sink.has_failed c.args.environment.now.writer) (g.D.Writer.Sink.has_failed c.run_task.new.writer) (g.D.Exports.OutputFiles.has_failed c.args.environment.now.exports) (g.D.Exports.OutputFiles.has_failed c.run_task.new.exports) c.run_task.ensures.err in
    rw c.in-Repair.is (also_fails c.run_task.result _ (λ fault. BlamesOutputs fault (c.run_task.new.writer ≡ c.args.environment.now.writer) (g.D.Writer.Sink.has_failed c.args.environment.now.writer) (g.D.Writer.Sink.has_failed c.run_task.new.writer) (g.D.Exports.OutputFiles.has_failed c.args.environment.now.exports) (g.D.Exports.OutputFiles.has_failed c.run_task.new.exports)) _ (rw c.repair_of-work.ensures at err)
    (λ fault blames. blames_as fault (c.run_task.new.writer ≡ c.args.environment.now.writer) _ ⊥ _ ((g.D.Writer.Sink.has_failed c.run_task.new.writer) ≡ true) _ ((g.D.Exports.OutputFiles.has_failed c.run_task.new.exports) ≡ true) _ ⊥ _ (((g.D.Writer.Sink.has_failed c.run_task.new.writer) ≡ (g.D.Writer.Sink.has_failed c.args.environment.now.writer)) × ((g.D.Exports.OutputFiles.has_failed c.run_task.new.exports) ≡ (g.D.Exports.OutputFiles.has_failed c.args.environment.now.exports))) _ blames (λ k. k) (λ none. absurd none) (λ w. w) (λ e. e) (λ none. absurd none)
    (λ (sound : ((g.D.Writer.Sink.has_failed c.run_task.new.writer) ≡ (g.D.Writer.Sink.has_failed c.args.environment.now.writer)) × ((g.D.Exports.OutputFiles.has_failed c.run_task.new.exports) ≡ (g.D.Exports.OutputFiles.has_failed c.args.environment.now.exports))). sound_by _ _ sound.1 refl refl sound.0)))

pub returns-in-Repair-clause-unput : goal.returns-in-Repair-clause-unput
returns-in-Repair-clause-unput g c = λ alone.
    c.run_task.ensures.unput (subst WritesExportAlone (sym c.job_of-job.ensures.files) (rw c.in-Repair.is at alone))

pub returns-in-Repair-clause-unasked : goal.returns-in-Repair-clause-unasked
returns-in-Repair-clause-unasked g c = λ none.
    c.run_task.ensures.unasked (subst WritesNoFile (sym c.job_of-job.ensures.files) (rw c.in-Repair.is at none))

pub returns-in-Repair-clause-silent : goal.returns-in-Repair-clause-silent
returns-in-Repair-clause-silent g c = λ nothing. let never : true ≡ false = rw c.in-Repair.is at nothing in absurd (cc never)

pub returns-in-Improve-clause-ok : goal.returns-in-Improve-clause-ok
returns-in-Improve-clause-ok g c =
    let i = rw c.in-Improve.is at c.input_of-inputs.ensures in
    let job = c.job_of-job-in-Improve in
    let ok = done_at _ _ _ _ (requested_at _ _ _ _ _ _ _ _ job.result i job.ensures.input (job.ensures.teams ∙ c.as_slice-in-Improve.ensures) refl job.ensures.files) c.run_task-in-Improve.result _ _ _ _ c.run_task-in-Improve.ensures.ok in
    rw c.in-Improve.is (rw c.improvement_of-work.ensures.within at ok)

pub returns-in-Improve-clause-err : goal.returns-in-Improve-clause-err
returns-in-Improve-clause-err g c =
    let i = rw c.in-Improve.is at c.input_of-inputs.ensures in
    let job = c.job_of-job-in-Improve in
    let err = not_done_at (improve_means c.improvement_of-work.result.within) (g.D.Texts.InputFiles.gives c.args.environment.now.texts) (request_of job.result) _ (requested_at _ _ _ _ _ _ _ _ job.result i job.ensures.input (job.ensures.teams ∙ c.as_slice-in-Improve.ensures) refl job.ensures.files) c.run_task-in-Improve.result
    (g.D.Writer.Sink.contents c.args.environment.now.writer) (g.D.Writer.Sink.contents c.run_task-in-Improve.new.writer)
    (g.D.Exports.OutputFiles.puts c.args.environment.now.exports) (g.D.Exports.OutputFiles.puts c.run_task-in-Improve.new.exports)
    (c.run_task-in-Improve.new.writer ≡ c.args.environment.now.writer) (g.D.Writer.Sink.has_failed c.args.environment.now.writer) (g.D.Writer.Sink.has_failed c.run_task-in-Improve.new.writer) (g.D.Exports.OutputFiles.has_failed c.args.environment.now.exports) (g.D.Exports.OutputFiles.has_failed c.run_task-in-Improve.new.exports) c.run_task-in-Improve.ensures.err in
    rw c.in-Improve.is (also_fails c.run_task-in-Improve.result _ (λ fault. BlamesOutputs fault (c.run_task-in-Improve.new.writer ≡ c.args.environment.now.writer) (g.D.Writer.Sink.has_failed c.args.environment.now.writer) (g.D.Writer.Sink.has_failed c.run_task-in-Improve.new.writer) (g.D.Exports.OutputFiles.has_failed c.args.environment.now.exports) (g.D.Exports.OutputFiles.has_failed c.run_task-in-Improve.new.exports)) _ (rw c.improvement_of-work.ensures.within at err)
    (λ fault blames. blames_as fault (c.run_task-in-Improve.new.writer ≡ c.args.environment.now.writer) _ ⊥ _ ((g.D.Writer.Sink.has_failed c.run_task-in-Improve.new.writer) ≡ true) _ ((g.D.Exports.OutputFiles.has_failed c.run_task-in-Improve.new.exports) ≡ true) _ ⊥ _ (((g.D.Writer.Sink.has_failed c.run_task-in-Improve.new.writer) ≡ (g.D.Writer.Sink.has_failed c.args.environment.now.writer)) × ((g.D.Exports.OutputFiles.has_failed c.run_task-in-Improve.new.exports) ≡ (g.D.Exports.OutputFiles.has_failed c.args.environment.now.exports))) _ blames (λ k. k) (λ none. absurd none) (λ w. w) (λ e. e) (λ none. absurd none)
    (λ (sound : ((g.D.Writer.Sink.has_failed c.run_task-in-Improve.new.writer) ≡ (g.D.Writer.Sink.has_failed c.args.environment.now.writer)) × ((g.D.Exports.OutputFiles.has_failed c.run_task-in-Improve.new.exports) ≡ (g.D.Exports.OutputFiles.has_failed c.args.environment.now.exports))). sound_by _ _ sound.1 refl refl sound.0)))

pub returns-in-Improve-clause-unput : goal.returns-in-Improve-clause-unput
returns-in-Improve-clause-unput g c = λ alone.
    c.run_task-in-Improve.ensures.unput (subst WritesExportAlone (sym c.job_of-job-in-Improve.ensures.files) (rw c.in-Improve.is at alone))

pub returns-in-Improve-clause-unasked : goal.returns-in-Improve-clause-unasked
returns-in-Improve-clause-unasked g c = λ none.
    c.run_task-in-Improve.ensures.unasked (subst WritesNoFile (sym c.job_of-job-in-Improve.ensures.files) (rw c.in-Improve.is at none))

pub returns-in-Improve-clause-silent : goal.returns-in-Improve-clause-silent
returns-in-Improve-clause-silent g c = λ nothing. let never : true ≡ false = rw c.in-Improve.is at nothing in absurd (cc never)
