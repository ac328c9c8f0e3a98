-- A hub that was served over a design of files, and why one is not.
use Rattle.std.specs.Prelude.{◌≡◌, ◌⊎◌, ℕ, List, [], Option}
use Rattle.lf_floorplan.specs.declared.limits.Limits.{Limits}
use Rattle.lf_floorplan.specs.declared.loaded.Loaded.{Loaded}
use Rattle.lf_rules.specs.Legalizer.{Legalizer}
use Rattle.lf_floor_model.specs.States.{FloorState}
use Rattle.lf_floor_model.specs.Designs.{initial_floor}
use Rattle.lf_hub_clients.specs.Turns.{IsAnswered, Turn}
use Rattle.lf_hub.specs.Laws.{Follow}
use Rattle.lf_hub_floor.specs.Answers.{Answers}
use Rattle.lf_hub_floor.specs.QueryAnswers.{Shows}
use Rattle.lf_hub_wire.specs.Calls.{Call}
use Rattle.lf_hub_serve.specs.Served.{IsServed}
use Rattle.lf_journal_run.specs.Runs.{RunsJournal}
use Rattle.lf_task_faults.specs.declared.faults.Fault.{Fault}
use Rattle.lf_task_faults.specs.declared.faults.Fault.TheVariants.{Hub}
use Rattle.lf_task_faults.specs.Faults.{IsEarly}
use Rattle.lf_task_designs.specs.Designs.{ReadsFile, IsDesignFault, IsDesignOf}
use Rattle.lf_task_files.specs.States.{IsNotOpened, IsOpenedFloor}
use Rattle.lf_task_journal.specs.Names.{IsLineOf, IsStateNamed}

-- There is a journal of the design of this line that begins with the state of this name. The lines of its records get
-- the recorded replies, and lead to the new floor.
abbrev pub RunsAText : List ℕ → List ℕ → FloorState → FloorState → Type 0
RunsAText line name old new = (text : List ℕ) × ((l : Legalizer) → RunsJournal l text line name old new)

-- Lines were answered for the teams, and lead from the first floor to the second.
abbrev pub FollowLines : FloorState → List Turn → FloorState → Type 0
FollowLines old turns new = Follow (IsAnswered Answers Shows) old turns new

-- ---- a hub that is served

-- Clients were served over this floor, until the operator stopped the hub.
pub record ServesFrom (floor : FloorState) : Type 0 where
  pub calls : List Call
  pub safe : List Turn
  pub held : List Turn
  pub last : FloorState
  pub serves : IsServed (IsAnswered Answers Shows) floor calls safe held last

-- The sessions that an earlier process has left open were closed, and then clients were served.
pub record ServesAfterClosing (restored : FloorState) : Type 0 where
  pub closings : List Turn
  pub floor : FloorState
  pub closes : FollowLines restored closings floor
  pub serves : ServesFrom floor

-- The journal of the design of these files, which begins with this state, was run on the floor, and then clients were
-- served.
pub record ServesRestored (limits : Limits) (gives : ReadsFile) (def : List ℕ) (lefs : List (List ℕ))
    (begin : Option (List ℕ)) (opened : FloorState) : Type 0 where
  pub line : List ℕ
  pub line_is : IsLineOf gives def lefs limits.sessions line
  pub name : List ℕ
  pub name_is : IsStateNamed gives begin name
  pub restored : FloorState
  pub runs : RunsAText line name opened restored
  pub serves : ServesAfterClosing restored

-- A hub was served over the design of these files, in this state.
pub record IsHubServed (limits : Limits) (gives : ReadsFile) (def : List ℕ) (lefs : List (List ℕ))
    (begin : Option (List ℕ)) : Type 0 where
  pub loaded : Loaded
  pub designed : IsDesignOf limits gives def lefs loaded
  pub opened : FloorState
  pub opens : IsOpenedFloor gives begin (initial_floor loaded) opened
  pub serves : ServesRestored limits gives def lefs begin opened

-- ---- why a hub is not served

-- The journal or a socket of the hub fails.
abbrev pub IsFailure : Fault → Type 0
IsFailure (Hub folder why) = Unit {0}
IsFailure _ = ⊥

-- A fault that occurs before a client is served, or a failure of the hub.
abbrev pub IsOfHub : Fault → Type 0
IsOfHub fault = IsEarly fault ⊎ IsFailure fault

-- There is no design, or it has no floor in the state of the file, or the hub fails.
abbrev pub IsHubFault : Limits → ReadsFile → List ℕ → List (List ℕ) → Option (List ℕ) → Fault → Type 0
IsHubFault limits gives def lefs begin fault =
    IsDesignFault limits gives def lefs fault
    ⊎ ((loaded : Loaded) × IsDesignOf limits gives def lefs loaded
    × (IsNotOpened gives begin loaded fault ⊎ IsOfHub fault))
