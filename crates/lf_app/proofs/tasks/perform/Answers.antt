use Rattle.std.proofs.Common.{◌≡◌, ◌∙◌, ap, rules, sym}
use Rattle.std.specs.Prelude.{⊤}
use Rattle.lf_cli.specs.Command.{as_job}
use Rattle.lf_app.proofs.Performing.{std_ends, std_outcome}
use Rattle.lf_app.proofs.tasks.perform.Goals as goal

pub returns-clause-outcome : goal.returns-clause-outcome
returns-clause-outcome g c = λ done.
    let read : c.reader-1.given.0 ≡ c.perform_with-performed.result.reader.reader.now = search rules in
    let written : c.writer-1.given.0 ≡ c.perform_with-performed.result.writer.writer.now = search rules in
    std_outcome (λ path text. ⊤) (as_job c.args.task.now) _ (g.R.Read.remaining c.args.reader.now) _ (g.R.Read.remaining c.reader-1.given.0)
    _ (g.W.Write.contents c.args.writer.now) _ (g.W.Write.contents c.writer-1.given.0) c.perform_with-performed.result.exit.status
    (c.perform_with-performed.ensures.outcome done) c.new-source.ensures.remaining (ap g.R.Read.remaining (sym read)) c.new-sink.ensures.contents
    (ap g.W.Write.contents (sym written))

pub returns-clause-fault : goal.returns-clause-fault
returns-clause-fault g c = λ failed.
    let read : c.reader-1.given.0 ≡ c.perform_with-performed.result.reader.reader.now = search rules in
    let written : c.writer-1.given.0 ≡ c.perform_with-performed.result.writer.writer.now = search rules in
    let reported : c.faults-1.given.0 ≡ c.perform_with-performed.result.faults.writer.now = search rules in
    std_ends (λ path text. ⊤) (as_job c.args.task.now) _ (g.R.Read.remaining c.args.reader.now) _ (g.R.Read.remaining c.reader-1.given.0)
    _ (g.W.Write.contents c.args.writer.now) _ (g.W.Write.contents c.writer-1.given.0) _ (g.F.Write.contents c.args.faults.now)
    _ (g.F.Write.contents c.faults-1.given.0) _ (c.writer-1.given.0 ≡ c.args.writer.now) _ c.perform_with-performed.result.exit
    (c.perform_with-performed.ensures.fault failed) c.new-source.ensures.remaining (ap g.R.Read.remaining (sym read)) c.new-sink.ensures.contents
    (ap g.W.Write.contents (sym written)) c.new-reported.ensures.contents (ap g.F.Write.contents (sym reported))
    (λ same. written ∙ (ap (λ s. s.writer.now) same ∙ c.new-sink.ensures.borrowed))
