-- The commands of a task, and the lines that are kept of them.
use Rattle.std.specs.Prelude.{◌≡◌, ℕ, true, All, List, [], Option, Some, None, option_map, unwrap_or}
use Rattle.std.specs.Io.KnownBytes.{Appends}
use Rattle.lf_floorplan.specs.declared.place.Place.{Place}
use Rattle.lf_rules.specs.Legalizer.{Legalizer}
use Rattle.lf_io.specs.Shelf.{Put, PutsFile}
use Rattle.lf_proto.specs.Lines.{IsLineName}
use Rattle.lf_proto.specs.Requests.{IsPlain}
use Rattle.lf_proto.specs.declared.request.Command.{Command}
use Rattle.lf_proto.specs.declared.reply.Reply.{Reply}
use Rattle.lf_floor_model.specs.States.{FloorState}
use Rattle.lf_floor_model.specs.Steps.{IsTo}
use Rattle.lf_floor_model.specs.Runs.{Run}
use Rattle.lf_floor_model.specs.VerbLaws.{is_ok}
use Rattle.lf_repair_team.specs.Runs.{request_lines}
use Rattle.lf_task_run.specs.declared.command_log.CommandLog.{CommandLog}

-- ---- the run

-- a line can contain the command, and reads as it, if its team's name is of visible bytes
abbrev pub IsPlainIfNamed : Command (List ℕ) Place → Type 0
IsPlainIfNamed command = (team : List ℕ) → IsTo team command → IsLineName team → IsPlain command

-- the commands lead the floor from `old` to `new`, each is accepted, and its line reads as it
pub record IsAcceptedRun (l : Legalizer) (old : FloorState) (commands : List (Command (List ℕ) Place))
    (new : FloorState) : Type 0 where
  pub replies : List Reply
  pub run : Run l old commands replies new
  pub granted : All (λ reply. is_ok reply ≡ true) replies
  pub plain : All IsPlainIfNamed commands

-- some accepted commands lead the floor from `old` to `new`, and their lines are appended to the
-- kept ones, if lines are kept
abbrev pub IsKeptRun : Legalizer → FloorState → Option (List ℕ) → Option (List ℕ) → FloorState → Type 0
IsKeptRun l old before after new =
    (commands : List (Command (List ℕ) Place)) × IsAcceptedRun l old commands new
    × Appends before after (request_lines commands)

-- ---- the lines

-- the text of the lines that are kept, if they are requested
abbrev pub kept_text : CommandLog → Option (List ℕ)
kept_text lines = option_map (λ text. text.items) lines.kept

-- its bytes
abbrev pub kept_bytes : Option (List ℕ) → List ℕ
kept_bytes kept = unwrap_or kept []

-- the lines at the start of a task: an empty text if a path is given for them
abbrev pub initial_lines : Option (List ℕ) → Option (List ℕ)
initial_lines path = option_map (λ _. []) path

-- the lines are written to the file at this path; without a path no file is written
abbrev pub WritesLines : Option (List ℕ) → Option (List ℕ) → Option (List Put) → Option (List Put) → Type 0
WritesLines None kept old new = new ≡ old
WritesLines (Some path) kept old new = PutsFile old new path (kept_bytes kept)
