-- What a repair opens, and what it does.
use Rattle.std.specs.Prelude.{◌≡◌, ◌⊎◌, IsTrue, List, Some, slice_get, true, ℕ}
use Rattle.lf_cli.specs.declared.parse.RepairOptions.{RepairOptions}
use Rattle.lf_cli.specs.declared.parse.LegalCells.TheVariants.{KeepLegal}
use Rattle.lf_floorplan.specs.declared.frame.Frame.{Frame}
use Rattle.lf_floor_model.specs.States.{FloorState}
use Rattle.lf_floor_model.specs.Teams.{team_names}
use Rattle.lf_task_faults.specs.declared.faults.Fault.{Fault}
use Rattle.lf_task_faults.specs.declared.faults.Fault.TheVariants.{RefusedTeam, SetupOutOfMemory}
use Rattle.lf_task_designs.specs.Designs.{ReadsFile}
use Rattle.lf_task_files.specs.Measured.{IsMeasuredFloor}
use Rattle.lf_task_files.specs.States.{IsFloorFault}
use Rattle.lf_task_files.specs.declared.measured.RepairLimits.{RepairLimits}
use Rattle.lf_task_wires.specs.Wirelengths.{IsFilesFault}
use Rattle.lf_task_run.specs.Tasks.{Means, Opens, Request}
use Rattle.lf_task_run.specs.Teams.{is_selected}
use Rattle.lf_task_repair.specs.declared.repairing.RepairStart.{RepairStart}
use Rattle.lf_task_repair.specs.Reports.{IsReport, KeepsAllLegalPlaces, reach_of_rows}

-- the floor is that of the design in the given state, and the limits of its repair are from the first
-- places there
abbrev pub OpensRepair : Opens RepairStart
OpensRepair = λ gives job text document loaded begin start. IsMeasuredFloor gives job.state loaded begin start.limits

-- why a repair has no floor: the design has none in the given state; or, if cells are to go near their
-- nets, the pins or nets of its texts cannot be read
abbrev pub IsOpeningFault : RepairOptions → ReadsFile → Request → Fault → Type 0
IsOpeningFault options gives job fault =
    IsFloorFault job.limits gives job.def job.lefs job.state fault
    ⊎ (IsTrue options.near_nets × IsFilesFault job.limits gives job.def job.lefs job.state fault)

-- the floor refused a command to this team
abbrev pub IsRefusalOf : List ℕ → Fault → Type 0
IsRefusalOf team (RefusedTeam name why) = name.items ≡ team
IsRefusalOf team _ = ⊥

-- why a team cannot be repaired: an allocation fails, or the floor refuses a command to it
abbrev pub IsTeamFault : List ℕ → Fault → Type 0
IsTeamFault team fault = (fault ≡ SetupOutOfMemory) ⊎ IsRefusalOf team fault

-- a team of the frame, which is selected
pub record IsSelectedTeam (f : Frame) (teams : List (List ℕ)) (team : List ℕ) : Type 0 where
  pub number : ℕ
  pub named : slice_get (team_names f) number ≡ Some team
  pub selected : is_selected teams team ≡ true

-- why the selected teams cannot be repaired: an allocation fails, or the floor refuses a command to one
-- of them
abbrev pub IsRepairFault : List (List ℕ) → FloorState → Fault → Type 0
IsRepairFault teams begin fault = (fault ≡ SetupOutOfMemory)
    ⊎ ((team : List ℕ) × IsSelectedTeam begin.frame teams team × IsRefusalOf team fault)

-- the first floor is repaired and becomes this one: no legal cell moves if legal cells are to stay; no
-- cell goes farther than the requested number of rows; the report has each selected team with its bound
-- and the result of its repair, and says whether the committed design is then fully legal
pub record IsRepair (options : RepairOptions) (teams : List (List ℕ)) (limits : RepairLimits) (begin floor : FloorState)
    (report : List ℕ) : Type 0 where
  pub stay : options.legal ≡ KeepLegal → KeepsAllLegalPlaces begin floor
  pub decides : IsReport (reach_of_rows begin.frame options.within) teams limits begin floor report

-- what a repair with these options means
abbrev pub repair_means : RepairOptions → Means RepairStart
repair_means options = record {
  opens = OpensRepair;
  refuses = IsOpeningFault options;
  fails = IsRepairFault;
  does = λ teams start begin floor report. IsRepair options teams start.limits begin floor report;
}
