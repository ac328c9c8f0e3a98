-- Faults of an opening are reported before anything is written; and faults of later floors.
use Rattle.std.proofs.Common.{◌≡◌, inl, inr, List, ℕ, subst}
use Rattle.lf_cli.specs.declared.parse.RepairOptions.{RepairOptions}
use Rattle.lf_floorplan.specs.declared.frame.Frame.{Frame}
use Rattle.lf_floor_model.specs.States.{FloorState}
use Rattle.lf_task_faults.specs.declared.faults.Fault.{Fault}
use Rattle.lf_task_faults.specs.Faults.{IsEarly}
use Rattle.lf_task_designs.specs.Designs.{ReadsFile}
use Rattle.lf_task_files.proofs.WorkSteps.{floor_early}
use Rattle.lf_task_wires.proofs.Steps.{files_early}
use Rattle.lf_task_run.specs.Tasks.{Request}
use Rattle.lf_task_repair.specs.Repairs.{IsOpeningFault, IsRepairFault, IsSelectedTeam}

pub opening_early : (options : RepairOptions) (gives : ReadsFile) (job : Request) (fault : Fault) → IsOpeningFault options gives job fault → IsEarly fault
opening_early options gives job fault (inl floor) = floor_early job.limits gives job.def job.lefs job.state fault floor
opening_early options gives job fault (inr files) = files_early job.limits gives job.def job.lefs job.state fault files.1

-- a fault on a later floor of the same frame
pub of_later : (teams : List (List ℕ)) (begin later : FloorState) (fault : Fault) → later.frame ≡ begin.frame → IsRepairFault teams later fault → IsRepairFault teams begin fault
of_later teams begin later fault same (inl memory) = inl memory
of_later teams begin later fault same (inr of) = inr (of.0, subst (λ (f : Frame). IsSelectedTeam f teams of.0) same of.1, of.2)
