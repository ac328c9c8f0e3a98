-- A state of a floor in a text is a state of each floor of the design.
use Rattle.std.proofs.Common.{◌∙◌, inl, inr, ℕ, List, ap, sym}
use Rattle.lf_state_text.specs.Designs.{NamedDesign}
use Rattle.lf_state_text.specs.Reading.{saved_state_of}
use Rattle.lf_floor_model.specs.States.{FloorState}
use Rattle.lf_floor.specs.Saved.{ShareDesign}
use Rattle.lf_floor.proofs.Restoring.{named_alike}
use Rattle.lf_floor.proofs.Alike.{restored_alike}
use Rattle.lf_task_faults.specs.declared.faults.Fault.{Fault}
use Rattle.lf_task_designs.specs.Designs.{ReadsFile}
use Rattle.lf_task_files.specs.States.{IsFileState, IsStateFileFault}

pub state_of_design : (gives : ReadsFile) (path : List ℕ) (opened bare begin : FloorState) → ShareDesign opened bare → IsFileState gives path bare begin
    → IsFileState gives path opened begin
state_of_design gives path opened bare begin one (text, given, (saved, read, is)) = (
  text,
  given,
  (saved, ap (λ (n : NamedDesign). saved_state_of n text) (sym (named_alike opened bare one)) ∙ read, is ∙ restored_alike opened bare saved one),
)

pub fault_of_design : (gives : ReadsFile) (path : List ℕ) (opened bare : FloorState) (fault : Fault) → ShareDesign opened bare
    → IsStateFileFault gives path bare fault → IsStateFileFault gives path opened fault
fault_of_design gives path opened bare fault one (inl unread) = inl unread
fault_of_design gives path opened bare fault one (inr (text, given, inl memory)) = inr (text, given, inl memory)
fault_of_design gives path opened bare fault one (inr (text, given, inr (why, read, refused))) =
    inr (text, given, inr (why, ap (λ (n : NamedDesign). saved_state_of n text) (sym (named_alike opened bare one)) ∙ read, refused))
