-- Runs of one team's own commands, and their lines.
use Rattle.std.specs.Prelude.{◌≡◌, ℕ, ◌≤◌, ◌+◌, List, ◌++◌, All, Bool, Option, Some, count_by, false, length, option_map, take, true}
use Rattle.std.specs.List.{flat_map}
use Rattle.std.specs.Io.KnownBytes.{Appends}
use Rattle.lf_floorplan.specs.declared.place.Place.{Place}
use Rattle.lf_proto.specs.Lines.{IsLineName}
use Rattle.lf_rules.specs.Legalizer.{Legalizer}
use Rattle.lf_proto.specs.declared.request.Command.{Command}
use Rattle.lf_proto.specs.declared.request.Command.TheVariants.{Bye, To}
use Rattle.lf_proto.specs.declared.reply.Reply.{Reply}
use Rattle.lf_proto.specs.Printed.{request_line}
use Rattle.lf_proto.specs.Requests.{IsPlain}
use Rattle.lf_floor_model.specs.States.{FloorState}
use Rattle.lf_floor_model.specs.Steps.{IsTo}
use Rattle.lf_floor_model.specs.Runs.{Run}
use Rattle.lf_floor_model.specs.Teams.{state_of}
use Rattle.lf_floor_model.specs.VerbLaws.{is_change, is_ok}

-- the lines of the commands
abbrev pub request_lines : List (Command (List ℕ) Place) → List ℕ
request_lines commands = flat_map request_line commands

-- the commands lead the floor from `old` to `new`, all of them are to this team, and all are
-- accepted; if the team's name is of visible bytes, a line can contain each command and reads as it
pub record IsRunBy (commands : List (Command (List ℕ) Place)) (l : Legalizer) (team : List ℕ)
    (old new : FloorState) : Type 0 where
  pub replies : List Reply
  pub run : Run l old commands replies new
  pub granted : All (λ reply. is_ok reply ≡ true) replies
  pub own : All (IsTo team) commands
  pub plain : IsLineName team → All IsPlain commands

-- some commands lead the floor from `old` to `new`, and their lines have been written, as far as
-- the writer's bytes are known
abbrev pub IsWrittenRun : Legalizer → List ℕ → FloorState → Option (List ℕ) → Option (List ℕ) → FloorState → Type 0
IsWrittenRun l team old before after new =
    (commands : List (Command (List ℕ) Place)) × IsRunBy commands l team old new
    × Appends before after (request_lines commands)

-- a prefix of the bytes has been written, as far as the writer's bytes are known: perhaps no byte,
-- perhaps all
abbrev pub AppendsSomeOf : Option (List ℕ) → Option (List ℕ) → List ℕ → Type 0
AppendsSomeOf before after bytes = (count : ℕ) × Appends before after (take count bytes)

-- some commands and at most one more lead the floor from `old` to `new`; written are the lines of
-- the former and a prefix of the last one's
pub record IsRunWithCutLine (l : Legalizer) (team : List ℕ) (old : FloorState) (before after : Option (List ℕ))
    (new : FloorState) : Type 0 where
  pub commands : List (Command (List ℕ) Place)
  pub last : List (Command (List ℕ) Place)
  pub one : length last ≤ 1
  pub run : IsRunBy (commands ++ last) l team old new
  pub count : ℕ
  pub written : Appends before after (request_lines commands ++ take count (request_lines last))

-- ---- the revision

-- the command is a change of a team
abbrev pub is_team_change : Command (List ℕ) Place → Bool
is_team_change (To team order) = is_change order
is_team_change Bye = false

-- how many of the commands are changes of a team
abbrev pub changes_among : List (Command (List ℕ) Place) → ℕ
changes_among commands = count_by is_team_change commands

-- the revision of the team; None if there is no such team
abbrev pub revision_in : FloorState → List ℕ → Option ℕ
revision_in floor team = option_map (λ s. s.revision) (state_of floor team)

-- a run by accepted commands of a team adds 1 to its revision for each change
abbrev pub RevisionCountsChanges : Type 0
RevisionCountsChanges =
    (commands : List (Command (List ℕ) Place)) (l : Legalizer) (team : List ℕ) (old new : FloorState) (revision : ℕ)
    → IsRunBy commands l team old new → revision_in old team ≡ Some revision
    → revision_in new team ≡ Some (revision + changes_among commands)
