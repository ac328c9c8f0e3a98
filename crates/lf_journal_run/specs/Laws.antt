-- What a run of a journal does: its lines are commands that the floor has run.
use Rattle.std.specs.Prelude.{◌≡◌, List}
use Rattle.lf_rules.specs.Legalizer.{Legalizer}
use Rattle.lf_proto.specs.Stream.{lines_of}
use Rattle.lf_floor_model.specs.States.{FloorState}
use Rattle.lf_floor_model.specs.Runs.{Run}
use Rattle.lf_server.specs.Exchanges.{Exchange, lines}
use Rattle.lf_server.specs.Laws.{commands, replies}
use Rattle.lf_journal_text.specs.Records.{Log}
use Rattle.lf_journal_run.specs.Texts.{entries_in, lines_text}
use Rattle.lf_journal_run.specs.Runs.{RunsLogs}

-- Each line of the batches was acted on, and the floor has run the commands of these lines.
pub record RunsCommands (l : Legalizer) (old : FloorState) (logs : List Log) (new : FloorState) : Type 0 where
  pub done : List Exchange
  pub all : lines done ≡ lines_of (lines_text (entries_in logs))
  pub run : Run l old (commands done) (replies done) new

-- The floor of a journal is that of a run of its lines.
abbrev pub JournalsRun : Type 0
JournalsRun = (l : Legalizer) (old new : FloorState) (logs : List Log) → RunsLogs l old logs new
    → RunsCommands l old logs new
