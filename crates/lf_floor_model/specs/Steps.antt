-- What one command does to the floor of all teams.
use Rattle.std.specs.Prelude.{◌≡◌, ℕ, List, Option, Some, None, true, false, MatchBool, slice_get, slice_set}
use Rattle.std.specs.Option.{option_map_or}
use Rattle.lf_units.specs.declared.geometry.Point.{Point}
use Rattle.lf_floorplan.specs.declared.frame.Frame.{Frame}
use Rattle.lf_floorplan.specs.declared.place.Place.{Place}
use Rattle.lf_rules.specs.Legalizer.{Legalizer}
use Rattle.lf_proto.specs.declared.request.Command.{Command}
use Rattle.lf_proto.specs.declared.request.Command.TheVariants.{Bye, To}
use Rattle.lf_proto.specs.declared.request.TeamCommand.{TeamCommand}
use Rattle.lf_proto.specs.declared.request.TeamCommand.TheVariants.{Within}
use Rattle.lf_proto.specs.declared.verb.Action.TheVariants.{Change as Changing}
use Rattle.lf_proto.specs.declared.verb.Change.TheVariants.{Place as PlaceAt, Legalize, Tidy, Swap, Commit}
use Rattle.lf_proto.specs.declared.reply.Reply.{Reply}
use Rattle.lf_proto.specs.declared.reply.Reply.TheVariants.{Done, Refused}
use Rattle.lf_proto.specs.declared.reply.Refusal.TheVariants.{NoTeam}
use Rattle.lf_floor_model.specs.States.{TeamState, FloorState}
use Rattle.lf_floor_model.specs.Teams.{team_rules, team_number, state_of}
use Rattle.lf_floor_model.specs.Outcomes.{Outcome, is_short, may_be_short, places_of}
use Rattle.lf_floor_model.specs.Verbs.{is_tested, outcome_of, takes_memory}
use Rattle.lf_floor_model.specs.VerbLaws.{is_ok, AreLegal, HasLegal, committed_places}

-- the floor of that frame, with these positions of entries and these teams
abbrev pub floor_of : Frame → List (List ℕ) → List TeamState → FloorState
floor_of f components teams = record { frame = f; teams = teams; components = components }

-- the reply to a command, and the floor afterwards
pub record Answer : Type 0 where
  pub reply : Reply
  pub floor : FloorState

-- the outcome of a command to the team of that number in this state, whose padding it uses
abbrev pub outcome_by_rules : Legalizer → Frame → ℕ → TeamCommand (List ℕ) Place → TeamState → Outcome
outcome_by_rules l f number order s = outcome_of (team_rules l f number s.padding) order s

-- the team's outcome on the floor: this team gets the outcome's state, and the others are unchanged
abbrev pub answer_of_outcome : FloorState → ℕ → Outcome → Answer
answer_of_outcome floor number o = record {
  reply = o.reply;
  floor = record floor { teams = slice_set floor.teams number o.team };
}

-- the answer if no team has the name
abbrev pub no_team : FloorState → Answer
no_team floor = record { reply = Refused NoTeam; floor = floor }

-- the answer of the team of that number; None if there is no such team
abbrev pub answer_at : Option ℕ → Legalizer → FloorState → TeamCommand (List ℕ) Place → Answer
answer_at None l floor order = no_team floor
answer_at (Some number) l floor order =
    option_map_or (λ s. answer_of_outcome floor number (outcome_by_rules l floor.frame number order s))
    (slice_get floor.teams number) (no_team floor)

-- the answer to a command: it depends on the state of the team of that name alone, and only that
-- state changes. Bye ends a connection; its sessions stay open
unfoldable pub answer_of : Legalizer → FloorState → Command (List ℕ) Place → Answer
answer_of l floor Bye = record { reply = Done; floor = floor }
answer_of l floor (To team order) = answer_at (team_number floor.frame team) l floor order

-- ---- a step

-- the commands that never allocate, and so never have the reply OutOfMemory: bye, open, close,
-- sync, where, undo and pad
abbrev pub AllocatesNothing : Command (List ℕ) Place → Type 0
AllocatesNothing Bye = Unit {0}
AllocatesNothing (To team order) = takes_memory order ≡ false

-- the command allocates nothing for this reply, though it may for another: a place that is refused
abbrev pub IsTested : Command (List ℕ) Place → Reply → Type 0
IsTested Bye reply = ⊥
IsTested (To team order) reply = is_tested order reply ≡ true

-- the reply and the floor are the answer's
pub record IsGivenAnswer (answer : Answer) (reply : Reply) (floor : FloorState) : Type 0 where
  pub reply_is : reply ≡ answer.reply
  pub floor_is : floor ≡ answer.floor

-- memory sufficed: the reply and the floor are those of the command's answer
abbrev pub IsAnswerOf : Legalizer → FloorState → Command (List ℕ) Place → Reply → FloorState → Type 0
IsAnswerOf l old command reply new = IsGivenAnswer (answer_of l old command) reply new

-- memory ran out: OutOfMemory may replace the answer's reply, and the floor is unchanged
pub record IsOutOfMemoryAnswer (answer : Answer) (old new : FloorState) : Type 0 where
  pub kept : new ≡ old
  pub may : may_be_short answer.reply ≡ true

-- the same, and the command may allocate and does so for this answer
pub record MayRunOutOfMemory (l : Legalizer) (old : FloorState) (command : Command (List ℕ) Place)
    (new : FloorState) : Type 0 where
  pub short : IsOutOfMemoryAnswer (answer_of l old command) old new
  pub takes : AllocatesNothing command → ⊥
  pub untested : IsTested command (answer_of l old command).reply → ⊥

-- a command gets this reply, and the floor changes from old to new: either the reply is OutOfMemory
-- and the floor is unchanged, or both are the answer's
abbrev pub Step : Legalizer → FloorState → Command (List ℕ) Place → Reply → FloorState → Type 0
Step l old command reply new =
    MatchBool (is_short reply) (MayRunOutOfMemory l old command new) (IsAnswerOf l old command reply new)

-- ---- what a caller can rely on

-- the team of that name has a cell of that name, which is placed and team-legal
pub record IsLegalCellOf (l : Legalizer) (floor : FloorState) (team name : List ℕ) : Type 0 where
  pub number : ℕ
  pub state : TeamState
  pub named : team_number floor.frame team ≡ Some number
  pub there : state_of floor team ≡ Some state
  pub legal : HasLegal (team_rules l floor.frame number state.padding) name state

-- after an accepted place the cell is team-legal
abbrev pub PlacesLegally : Legalizer → Command (List ℕ) Place → Reply → FloorState → Type 0
PlacesLegally l command reply new =
    (team name : List ℕ) (session : ℕ) (place : Place)
    → command ≡ To team (Within session (Changing (PlaceAt name place))) → is_ok reply ≡ true
    → IsLegalCellOf l new team name

-- after an accepted legalize the cell is team-legal
abbrev pub LegalizesLegally : Legalizer → Command (List ℕ) Place → Reply → FloorState → Type 0
LegalizesLegally l command reply new =
    (team name : List ℕ) (session : ℕ) (target : Point)
    → command ≡ To team (Within session (Changing (Legalize name target))) → is_ok reply ≡ true
    → IsLegalCellOf l new team name

-- the team of that name has all its cells placed and team-legal
pub record AreAllLegalIn (l : Legalizer) (floor : FloorState) (team : List ℕ) : Type 0 where
  pub number : ℕ
  pub state : TeamState
  pub named : team_number floor.frame team ≡ Some number
  pub there : state_of floor team ≡ Some state
  pub legal : AreLegal (team_rules l floor.frame number state.padding) state

-- after an accepted tidy every cell of the team is placed and team-legal
abbrev pub TidiesLegally : Legalizer → Command (List ℕ) Place → Reply → FloorState → Type 0
TidiesLegally l command reply new =
    (team : List ℕ) (session : ℕ) → command ≡ To team (Within session (Changing Tidy)) → is_ok reply ≡ true
    → AreAllLegalIn l new team

-- after an accepted swap both cells are team-legal
abbrev pub SwapsLegally : Legalizer → Command (List ℕ) Place → Reply → FloorState → Type 0
SwapsLegally l command reply new =
    (team first second : List ℕ) (session : ℕ)
    → command ≡ To team (Within session (Changing (Swap first second))) → is_ok reply ≡ true
    → IsLegalCellOf l new team first × IsLegalCellOf l new team second

-- all cells of the team of that name are placed and team-legal, and their working places are
-- committed
pub record AllCommittedIn (l : Legalizer) (floor : FloorState) (team : List ℕ) : Type 0 where
  pub number : ℕ
  pub state : TeamState
  pub named : team_number floor.frame team ≡ Some number
  pub there : state_of floor team ≡ Some state
  pub legal : AreLegal (team_rules l floor.frame number state.padding) state
  pub committed : committed_places state ≡ places_of state.cells

-- after an accepted commit every cell of the team is placed and team-legal, and its committed place
-- is its working place
abbrev pub CommitsLegally : Legalizer → Command (List ℕ) Place → Reply → FloorState → Type 0
CommitsLegally l command reply new =
    (team : List ℕ) (session : ℕ) → command ≡ To team (Within session (Changing Commit)) → is_ok reply ≡ true
    → AllCommittedIn l new team

-- a refusal leaves the whole floor unchanged
abbrev pub KeepsIfRefused : Reply → FloorState → FloorState → Type 0
KeepsIfRefused reply old new = is_ok reply ≡ false → new ≡ old

-- the command is to the team of that name
abbrev pub IsTo : List ℕ → Command (List ℕ) Place → Type 0
IsTo team Bye = ⊥
IsTo team (To name order) = name ≡ team
