-- The floor with which a repair begins, and what is known of it before.
use Rattle.std.specs.Prelude.{◌≡◌, ◌+◌, ℕ, false, List, length, Option}
use Rattle.lf_floorplan.specs.declared.loaded.Loaded.{Loaded}
use Rattle.lf_floor_model.specs.Designs.{initial_floor}
use Rattle.lf_floor_model.specs.States.{FloorState}
use Rattle.lf_repair_bounds.specs.ImpossibleMacros.{AreImpossibleMacros}
use Rattle.lf_repair_bounds.specs.MinDisplacements.{AreMaxMinDisplacements}
use Rattle.lf_task_files.specs.declared.measured.RepairLimits.{RepairLimits}
use Rattle.lf_task_designs.specs.Designs.{ReadsFile}
use Rattle.lf_task_files.specs.States.{IsOpenedFloor, IsViewedDesign}

-- For each team of the design the largest of the least displacements of its cells, and the macros
-- whose cells no place can hold.
pub record AreRepairLimits (loaded : Loaded) (limits : RepairLimits) : Type 0 where
  pub many : length limits.least.items ≡ length loaded.frame.teams + 1
  pub each : AreMaxMinDisplacements loaded.frame loaded.cells limits.least.items
  pub impossible : AreImpossibleMacros loaded.frame loaded.cells limits.impossible.items

-- The floor of the design as loaded, with a team for each fence and one more, and its limits.
pub record IsMeasuredAsLoaded (loaded : Loaded) (begin : FloorState) (limits : RepairLimits) : Type 0 where
  pub begins : begin ≡ initial_floor loaded
  pub whole : length begin.teams ≡ length begin.frame.teams + 1
  pub known : AreRepairLimits loaded limits

-- The floor of the design in the given state, with a team for each fence and one more, and the limits
-- of the design with its working places.
pub record IsMeasuredFloor (gives : ReadsFile) (state : Option (List ℕ)) (loaded : Loaded) (begin : FloorState)
    (limits : RepairLimits) : Type 0 where
  pub begins : IsOpenedFloor gives state (initial_floor loaded) begin
  pub whole : length begin.teams ≡ length begin.frame.teams + 1
  pub seen : Loaded
  pub shown : IsViewedDesign false gives state loaded seen
  pub known : AreRepairLimits seen limits
