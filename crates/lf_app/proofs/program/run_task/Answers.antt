use Rattle.std.proofs.Common.{◌≡◌, ap}
use Rattle.lf_cli.specs.Command.{as_job}
use Rattle.lf_app.proofs.Running.{job_run}
use Rattle.lf_app.proofs.program.run_task.Goals as goal

pub returns-clause-run : goal.returns-clause-run
returns-clause-run g c =
    let done = c.perform_over-exit in
    job_run (g.D.Texts.InputFiles.gives c.args.environment.now.texts) (as_job c.args.task.now) _ _ _ _ _ (done.new.environment.writer ≡ c.args.environment.now.writer) done.result
    (λ none. (ap g.D.Reader.Source.remaining (done.ensures.unread none), ap g.D.Reader.Source.reads (done.ensures.unread none)))
    (λ none. (ap g.D.Exports.OutputFiles.puts (done.ensures.unasked none), ap g.D.Exports.OutputFiles.has_failed (done.ensures.unasked none)))
    done.ensures.status done.ensures.outcome (λ is. ap g.D.Faults.Sink.contents (done.ensures.done is)) done.ensures.offered done.ensures.fault
    (λ same. (ap g.D.Writer.Sink.contents same, ap g.D.Writer.Sink.has_failed same)) done.ensures.unput done.ensures.unoffered
