-- The floor with which the lines of a task begin: in the state of a file and after the journal of a file, each if one
-- is given.
use Rattle.std.specs.Prelude.{◌≡◌, ◌⊎◌, ℕ, List, Option, Some, None}
use Rattle.lf_floorplan.specs.declared.limits.Limits.{Limits}
use Rattle.lf_floorplan.specs.declared.loaded.Loaded.{Loaded}
use Rattle.lf_floor_model.specs.States.{FloorState}
use Rattle.lf_floor_model.specs.Designs.{initial_floor}
use Rattle.lf_task_faults.specs.declared.faults.Fault.{Fault}
use Rattle.lf_task_designs.specs.Designs.{ReadsFile, IsDesignFault, IsDesignOf}
use Rattle.lf_task_files.specs.States.{IsNotOpened, IsOpenedFloor}
use Rattle.lf_task_journal.specs.Journals.{IsJournalFault, RunsJournalFile}

-- The floor is that after the journal of the file. Without a path, it is the opened one.
abbrev pub IsFloorAfter : Limits → ReadsFile → List ℕ → List (List ℕ) → Option (List ℕ) → Option (List ℕ) → FloorState
    → FloorState → Type 0
IsFloorAfter limits gives def lefs state None opened begin = begin ≡ opened
IsFloorAfter limits gives def lefs state (Some journal) opened begin =
    RunsJournalFile limits gives def lefs state journal opened begin

-- The floor of the design in the state of the file, after the journal of the file.
pub record IsBegunFloor (limits : Limits) (gives : ReadsFile) (def : List ℕ) (lefs : List (List ℕ))
    (state journal : Option (List ℕ)) (loaded : Loaded) (begin : FloorState) : Type 0 where
  pub opened : FloorState
  pub opens : IsOpenedFloor gives state (initial_floor loaded) opened
  pub runs : IsFloorAfter limits gives def lefs state journal opened begin

-- The floor with which lines begin over these files.
abbrev pub IsBeginOf : Limits → ReadsFile → List ℕ → List (List ℕ) → Option (List ℕ) → Option (List ℕ) → FloorState
    → Type 0
IsBeginOf limits gives def lefs state journal begin = (loaded : Loaded) × IsDesignOf limits gives def lefs loaded
    × IsBegunFloor limits gives def lefs state journal loaded begin

-- ---- why there is none

-- Why the given journal is not run on the opened floor.
abbrev pub IsNotRunOn : Limits → ReadsFile → List ℕ → List (List ℕ) → Option (List ℕ) → Option (List ℕ) → FloorState
    → Fault → Type 0
IsNotRunOn limits gives def lefs state None opened fault = ⊥
IsNotRunOn limits gives def lefs state (Some journal) opened fault =
    IsJournalFault limits gives def lefs state journal opened fault

-- Why the design has no floor with which lines begin.
abbrev pub IsNotBegun : Limits → ReadsFile → List ℕ → List (List ℕ) → Option (List ℕ) → Option (List ℕ) → Loaded
    → Fault → Type 0
IsNotBegun limits gives def lefs state journal loaded fault =
    IsNotOpened gives state loaded fault
    ⊎ ((opened : FloorState) × IsOpenedFloor gives state (initial_floor loaded) opened
    × IsNotRunOn limits gives def lefs state journal opened fault)

-- Why there is no floor with which lines begin: there is no design, or it has no such floor.
abbrev pub IsBeginFault : Limits → ReadsFile → List ℕ → List (List ℕ) → Option (List ℕ) → Option (List ℕ) → Fault
    → Type 0
IsBeginFault limits gives def lefs state journal fault =
    IsDesignFault limits gives def lefs fault
    ⊎ ((loaded : Loaded) × IsDesignOf limits gives def lefs loaded
    × IsNotBegun limits gives def lefs state journal loaded fault)
