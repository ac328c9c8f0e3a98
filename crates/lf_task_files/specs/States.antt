-- The state of a floor that is read from a file before work begins, and written to one at the end.
use Rattle.std.specs.Prelude.{◌≡◌, ◌⊎◌, ℕ, Bool, List, Option, Some, None, Ok, Err}
use Rattle.lf_io.specs.Shelf.{Put, PutsFile}
use Rattle.lf_state_text.specs.declared.fault.StateFault.{StateFault}
use Rattle.lf_state_text.specs.Reading.{saved_state_of}
use Rattle.lf_state_text.specs.Saved.{SavedTeam}
use Rattle.lf_floorplan.specs.declared.limits.Limits.{Limits}
use Rattle.lf_floorplan.specs.declared.loaded.Loaded.{Loaded}
use Rattle.lf_floor_model.specs.States.{FloorState}
use Rattle.lf_floor_model.specs.Designs.{initial_floor}
use Rattle.lf_floor.specs.Saved.{IsRestoredFrom, IsStateText, design_names}
use Rattle.lf_task_faults.specs.declared.faults.Fault.{Fault}
use Rattle.lf_task_faults.specs.declared.faults.Fault.TheVariants.{SetupOutOfMemory, RefusedState}
use Rattle.lf_task_faults.specs.declared.faults.TextKind.TheVariants.{State}
use Rattle.lf_task_designs.specs.Designs.{ReadsFile, IsDesignFault, IsDesignOf, IsUnread}
use Rattle.lf_task_faults.specs.Refusals.{ReportsStateFault}
use Rattle.lf_task_files.specs.PlacedDesigns.{IsPlacedOnFloor}

-- ---- the state with which work begins

-- The file of the path is read, and its text has these teams of the design of the opened floor.
abbrev pub FileHasState : ReadsFile → List ℕ → FloorState → List SavedTeam → Type 0
FileHasState gives path opened saved = (text : List ℕ) × gives path (Some text)
    × (saved_state_of (design_names opened) text ≡ Ok saved)

-- The file of the path is read, and the floor is in the state that its text has of the design of
-- the opened floor.
abbrev pub IsFileState : ReadsFile → List ℕ → FloorState → FloorState → Type 0
IsFileState gives path opened begin = (text : List ℕ) × gives path (Some text) × IsRestoredFrom opened text begin

-- The floor with which work begins: in the state of the file, or without a path the opened one.
abbrev pub IsOpenedFloor : ReadsFile → Option (List ℕ) → FloorState → FloorState → Type 0
IsOpenedFloor gives None opened begin = begin ≡ opened
IsOpenedFloor gives (Some path) opened begin = IsFileState gives path opened begin

-- What is reported about a refused text: its fault, or a failed allocation.
abbrev pub IsStateRefused : List ℕ → List ℕ → StateFault → Fault → Type 0
IsStateRefused path text why (RefusedState its refusal) = (its.now ≡ path) × ReportsStateFault text why refusal
IsStateRefused path text why SetupOutOfMemory = Unit {0}
IsStateRefused path text why _ = ⊥

-- Why the text has no state of the floor's design: its first fault, with its line; or a failed
-- allocation.
abbrev pub IsStateTextFault : FloorState → List ℕ → List ℕ → Fault → Type 0
IsStateTextFault opened path text fault =
    (fault ≡ SetupOutOfMemory)
    ⊎ ((why : StateFault) × (saved_state_of (design_names opened) text ≡ Err why) × IsStateRefused path text why fault)

-- Why the file of the path has no state of the design: its text was not read, or has no such state.
abbrev pub IsStateFileFault : ReadsFile → List ℕ → FloorState → Fault → Type 0
IsStateFileFault gives path opened fault =
    IsUnread gives State path fault
    ⊎ ((text : List ℕ) × gives path (Some text) × IsStateTextFault opened path text fault)

-- Why work does not begin in the requested state.
abbrev pub IsStateFault : ReadsFile → Option (List ℕ) → FloorState → Fault → Type 0
IsStateFault gives None opened fault = ⊥
IsStateFault gives (Some path) opened fault = IsStateFileFault gives path opened fault

-- Why the design has no floor with which work begins.
abbrev pub IsNotOpened : ReadsFile → Option (List ℕ) → Loaded → Fault → Type 0
IsNotOpened gives state loaded fault = (fault ≡ SetupOutOfMemory)
    ⊎ IsStateFault gives state (initial_floor loaded) fault

-- Why there is no floor with which work begins: there is no design; or an allocation for its floor
-- failed; or the floor could not be brought into the requested state.
abbrev pub IsFloorFault : Limits → ReadsFile → List ℕ → List (List ℕ) → Option (List ℕ) → Fault → Type 0
IsFloorFault limits gives def lefs state fault =
    IsDesignFault limits gives def lefs fault
    ⊎ ((loaded : Loaded) × IsDesignOf limits gives def lefs loaded × IsNotOpened gives state loaded fault)

-- ---- the design to show

-- The design with the places of the floor in the state of the file of this path: the committed ones
-- if `committed`, else the working ones.
abbrev pub IsDesignInState : Bool → ReadsFile → List ℕ → Loaded → Loaded → Type 0
IsDesignInState committed gives path design seen =
    (floor : FloorState) × IsFileState gives path (initial_floor design) floor
    × IsPlacedOnFloor committed floor design seen

-- The design to show: with these places of the state of the file, or without a path as loaded.
abbrev pub IsViewedDesign : Bool → ReadsFile → Option (List ℕ) → Loaded → Loaded → Type 0
IsViewedDesign committed gives None design seen = seen ≡ design
IsViewedDesign committed gives (Some path) design seen = IsDesignInState committed gives path design seen

-- The design of a DEF file over LEF files, with the places to show.
abbrev pub IsViewedDesignOf : Bool → Limits → ReadsFile → List ℕ → List (List ℕ) → Option (List ℕ) → Loaded → Type 0
IsViewedDesignOf committed limits gives def lefs state seen =
    (design : Loaded) × IsDesignOf limits gives def lefs design × IsViewedDesign committed gives state design seen

-- ---- the state at the end

-- A text of the floor's state is written to the file of this path. Without a path, no file is
-- written.
abbrev pub IsSaved : Option (List ℕ) → FloorState → Option (List Put) → Option (List Put) → Type 0
IsSaved None floor old new = new ≡ old
IsSaved (Some path) floor old new = (text : List ℕ) × IsStateText floor text × PutsFile old new path text
