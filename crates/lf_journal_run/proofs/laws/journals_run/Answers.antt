use Rattle.std.proofs.Common.{◌≡◌, subst}
use Rattle.lf_proto.specs.Stream.{lines_of}
use Rattle.lf_server.specs.Endings.{AreLinesActedOn, ended_lines}
use Rattle.lf_server.specs.Exchanges.{lines}
use Rattle.lf_server.specs.declared.serve_loop.Ending.{Ending}
use Rattle.lf_journal_run.specs.Runs.{most_lines}
use Rattle.lf_journal_run.specs.Texts.{entries_in, lines_text}
use Rattle.lf_journal_run.proofs.laws.journals_run.Goals as goal

pub returns : goal.returns
returns c = λ l old new logs runs.
    let all = lines_of (lines_text (entries_in logs)) in
    let acted = subst (λ (e : Ending). AreLinesActedOn e most_lines all (ended_lines runs.serves.read) (lines runs.serves.done)) runs.ends runs.serves.acted_on in
    record {
      done = runs.serves.done;
      all = acted.0;
      run = c.serving_runs.ensures l runs.served.ending old new _ _ runs.serves.done runs.serves.comes;
    }
