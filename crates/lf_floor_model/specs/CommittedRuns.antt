-- What a sequence of commands does to the committed design.
use Rattle.std.specs.Prelude.{◌≡◌, ℕ, ◌<◌, List, [], ◌∷◌, length, Bool, true, false, Some, All, slice_get}
use Rattle.lf_floorplan.specs.declared.frame.Frame.{Frame}
use Rattle.lf_floorplan.specs.declared.loaded.Loaded.{Loaded}
use Rattle.lf_floorplan.specs.declared.place.Place.{Place}
use Rattle.lf_rules.specs.FullyLegal.{IsFullyLegal}
use Rattle.lf_rules.specs.Legalizer.{Legalizer}
use Rattle.lf_proto.specs.declared.request.Command.{Command}
use Rattle.lf_proto.specs.declared.request.Command.TheVariants.{To}
use Rattle.lf_proto.specs.declared.request.TeamCommand.{TeamCommand}
use Rattle.lf_proto.specs.declared.request.TeamCommand.TheVariants.{Within}
use Rattle.lf_proto.specs.declared.verb.Action.TheVariants.{Change as Changing}
use Rattle.lf_proto.specs.declared.verb.Change.TheVariants.{Tidy, Commit}
use Rattle.lf_proto.specs.declared.reply.Reply.{Reply}
use Rattle.lf_proto.specs.declared.reply.Reply.TheVariants.{Refused}
use Rattle.lf_proto.specs.declared.reply.Refusal.{Refusal}
use Rattle.lf_proto.specs.declared.reply.Refusal.TheVariants.{NoSession, Stale, RevisionsSpent}
use Rattle.lf_floor_model.specs.States.{TeamState, FloorState}
use Rattle.lf_floor_model.specs.Teams.{TeamRules, IsTeamOf, team_number, state_of}
use Rattle.lf_floor_model.specs.VerbLaws.{AreLegal, is_change, is_ok, outcome_of_asking}
use Rattle.lf_floor_model.specs.Steps.{Step}
use Rattle.lf_floor_model.specs.Runs.{Run, own_commands, own_replies_in}
use Rattle.lf_floor_model.specs.Committed.{AreCommittedLegal, IsCommittedLegal, KeepsCommittedLegal, loaded_design}
use Rattle.lf_floor_model.specs.Designs.{initial_floor}

-- each team of the floor is a team of its frame
abbrev pub HasFrameTeams : FloorState → Type 0
HasFrameTeams floor = All (λ s. IsTeamOf floor.frame s) floor.teams

-- a command keeps a fully legal committed design
abbrev pub StepKeepsCommitted : Type 0
StepKeepsCommitted =
    (l : Legalizer) (old new : FloorState) (command : Command (List ℕ) Place) (reply : Reply) → HasFrameTeams old
    → Step l old command reply new → KeepsCommittedLegal old new

-- ---- runs

-- after a run each team of the floor is still a team of its frame
abbrev pub RunKeepsTeams : Type 0
RunKeepsTeams =
    (l : Legalizer) (old new : FloorState) (commands : List (Command (List ℕ) Place)) (replies : List Reply)
    → HasFrameTeams old
    → Run l old commands replies new → HasFrameTeams new

-- a run in which the committed design is fully legal after each command
abbrev pub LegalRun : Legalizer → FloorState → List (Command (List ℕ) Place) → List Reply → FloorState → Type 0
LegalRun l old [] [] new = new ≡ old
LegalRun l old (command ∷ commands) (reply ∷ replies) new =
    (mid : FloorState) × Step l old command reply mid × IsCommittedLegal mid × LegalRun l mid commands replies new
LegalRun l old [] (reply ∷ replies) new = ⊥
LegalRun l old (command ∷ commands) [] new = ⊥

-- in a run that starts with a fully legal committed design, it is fully legal after each command
abbrev pub RunStaysLegal : Type 0
RunStaysLegal =
    (l : Legalizer) (old new : FloorState) (commands : List (Command (List ℕ) Place)) (replies : List Reply)
    → HasFrameTeams old
    → Run l old commands replies new → IsCommittedLegal old → LegalRun l old commands replies new

-- the same for each run on a floor that begins with a fully legal loaded design
abbrev pub LoadedRunStaysLegal : Type 0
LoadedRunStaysLegal =
    (l : Legalizer) (design : Loaded) (new : FloorState) (commands : List (Command (List ℕ) Place))
    (replies : List Reply)
    → IsFullyLegal design.frame (loaded_design design)
    → Run l (initial_floor design) commands replies new → LegalRun l (initial_floor design) commands replies new

-- ---- if each team has committed

-- a commit of the team was accepted
pub record HasCommitted (team : List ℕ) (commands : List (Command (List ℕ) Place)) (replies : List Reply) : Type 0 where
  pub at : ℕ
  pub session : ℕ
  pub reply : Reply
  pub commit : slice_get commands at ≡ Some (To team (Within session (Changing Commit)))
  pub answer : slice_get replies at ≡ Some reply
  pub accepted : is_ok reply ≡ true

-- after an accepted commit of a team in a run, the team's committed places are legal at the end,
-- whatever they were at the start and whatever commands come later
abbrev pub CommitLasts : Type 0
CommitLasts =
    (l : Legalizer) (old new : FloorState) (commands : List (Command (List ℕ) Place)) (replies : List Reply)
    → HasFrameTeams old
    → Run l old commands replies new → (team : List ℕ) (number : ℕ) (s : TeamState) → HasCommitted team commands replies
    → team_number new.frame team ≡ Some number → state_of new team ≡ Some s → AreCommittedLegal new.frame number s

-- a commit of the team of that number was accepted, under its name
pub record NumberHasCommitted (f : Frame) (number : ℕ) (commands : List (Command (List ℕ) Place))
    (replies : List Reply) : Type 0 where
  pub team : List ℕ
  pub named : team_number f team ≡ Some number
  pub committed : HasCommitted team commands replies

-- a commit of each team that has a cell was accepted
abbrev pub AllHaveCommitted : FloorState → List (Command (List ℕ) Place) → List Reply → Type 0
AllHaveCommitted floor commands replies =
    (number : ℕ) (s : TeamState) → slice_get floor.teams number ≡ Some s → 0 < length s.cells
    → NumberHasCommitted floor.frame number commands replies

-- if a commit of each team that has a cell was accepted, the committed design is fully legal at the
-- end, whatever it was at the start
abbrev pub CommitsMakeLegal : FloorState → List (Command (List ℕ) Place) → List Reply → FloorState → Type 0
CommitsMakeLegal old commands replies new = AllHaveCommitted old commands replies → IsCommittedLegal new

-- this holds for each run
abbrev pub RunCommitsMakeLegal : Type 0
RunCommitsMakeLegal =
    (l : Legalizer) (old new : FloorState) (commands : List (Command (List ℕ) Place)) (replies : List Reply)
    → HasFrameTeams old
    → Run l old commands replies new → CommitsMakeLegal old commands replies new

-- ---- a commit after a tidy

-- the refusal is for the session or for the team's revision, independent of the cells
abbrev pub is_for_session : Refusal → Bool
is_for_session NoSession = true
is_for_session (Stale revision) = true
is_for_session RevisionsSpent = true
is_for_session _ = false

-- no fault is found in the cells: the command is accepted, or refused only for its session or the
-- revision
abbrev pub finds_no_fault : Reply → Bool
finds_no_fault (Refused refusal) = is_for_session refusal
finds_no_fault _ = true

-- a commit of a team whose cells are all placed and team-legal finds no fault
abbrev pub LegalCommits : Type 0
LegalCommits =
    (t : TeamRules) (session : ℕ) (s : TeamState) → IsTeamOf t.frame s → AreLegal t s
    → finds_no_fault (outcome_of_asking t session Commit s).reply ≡ true

-- the team's commands at i and j, with their replies: a tidy at i was accepted, a commit at j comes
-- later, and each change between them was refused
pub record TidyThenCommit (orders : List (TeamCommand (List ℕ) Place)) (replies : List Reply) (i j : ℕ) : Type 0 where
  pub first : ℕ
  pub second : ℕ
  pub reply : Reply
  pub later : i < j
  pub tidy : slice_get orders i ≡ Some (Within first (Changing Tidy))
  pub answer : slice_get replies i ≡ Some reply
  pub accepted : is_ok reply ≡ true
  pub commit : slice_get orders j ≡ Some (Within second (Changing Commit))
  pub between :
      (k : ℕ) (order : TeamCommand (List ℕ) Place) (own_replies_in : Reply) → i < k → k < j
      → slice_get orders k ≡ Some order → slice_get replies k ≡ Some own_replies_in → is_change order ≡ true
      → is_ok own_replies_in ≡ false

-- the commit at j finds no fault
abbrev pub TidiedCommits : List (TeamCommand (List ℕ) Place) → List Reply → Type 0
TidiedCommits orders replies =
    (i j : ℕ) (reply : Reply) → TidyThenCommit orders replies i j → slice_get replies j ≡ Some reply
    → finds_no_fault reply ≡ true

-- this holds for each team's commands among these, without those with the reply OutOfMemory
abbrev pub EachTidiedCommits : FloorState → List (Command (List ℕ) Place) → List Reply → Type 0
EachTidiedCommits old commands replies =
    (team : List ℕ) (s : TeamState) → state_of old team ≡ Some s
    → TidiedCommits (own_commands team commands replies) (own_replies_in team commands replies)

-- this holds for each run
abbrev pub RunTidiedCommits : Type 0
RunTidiedCommits =
    (l : Legalizer) (old new : FloorState) (commands : List (Command (List ℕ) Place)) (replies : List Reply)
    → HasFrameTeams old
    → Run l old commands replies new → EachTidiedCommits old commands replies
