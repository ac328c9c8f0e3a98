-- The report and the files that a task writes at its end.
use Rattle.std.specs.Prelude.{◌≡◌, ◌||◌, ◌⊎◌, ℕ, Bool, true, List, Option, None, is_some, take}
use Rattle.std.specs.Io.KnownBytes.{Appends}
use Rattle.lf_def.specs.Document.{Document}
use Rattle.lf_io.specs.Shelf.{Put}
use Rattle.lf_floor_model.specs.States.{FloorState}
use Rattle.lf_floor.specs.Working.{with_working}
use Rattle.lf_cli.specs.Command.{RepairPaths}
use Rattle.lf_task_faults.specs.Faults.{BlamesDevices}
use Rattle.lf_task_faults.specs.declared.faults.Fault.{Fault}
use Rattle.lf_task_faults.specs.declared.faults.Fault.TheVariants.{Output}
use Rattle.lf_task_faults.specs.declared.faults.OutputKind.TheVariants.{Export, Lines, Save, Working}
use Rattle.lf_task_files.specs.Exits.{IsExported}
use Rattle.lf_task_files.specs.Faults.{IsOutputFault}
use Rattle.lf_task_files.specs.States.{IsSaved}
use Rattle.lf_task_run.specs.Commands.{WritesLines}

-- ---- the files

-- no file is requested
pub record WritesNoFile (files : RepairPaths) : Type 0 where
  pub export : files.export ≡ None
  pub working : files.working ≡ None
  pub lines : files.lines ≡ None
  pub save : files.save ≡ None

-- no file is requested that is made from the DEF text
pub record WritesNoText (files : RepairPaths) : Type 0 where
  pub export : files.export ≡ None
  pub working : files.working ≡ None

-- a file is requested that is made from the DEF text
abbrev pub is_text_requested : RepairPaths → Bool
is_text_requested files = is_some files.export || is_some files.working

-- no file is requested but that of the exported text
pub record WritesExportAlone (files : RepairPaths) : Type 0 where
  pub working : files.working ≡ None
  pub lines : files.lines ≡ None
  pub save : files.save ≡ None

-- the first file alone, the first two, and all but the state, in the order in which they are written
abbrev pub first_file : RepairPaths → RepairPaths
first_file files = record { export = files.export; working = None; lines = None; save = None }

abbrev pub two_files : RepairPaths → RepairPaths
two_files files = record { export = files.export; working = files.working; lines = None; save = None }

abbrev pub three_files : RepairPaths → RepairPaths
three_files files = record { export = files.export; working = files.working; lines = files.lines; save = None }

-- ---- what is written

-- the requested files are written: the text with the committed places, the text with the working
-- places, the command lines, and the state of the floor
pub record AreWritten (files : RepairPaths) (text : List ℕ) (document : Document) (floor : FloorState)
    (kept : Option (List ℕ)) (old new : Option (List Put)) : Type 0 where
  pub exported : Option (List Put)
  pub exports : IsExported files.export text document floor old exported
  pub worked : Option (List Put)
  pub works : IsExported files.working text document (with_working floor) exported worked
  pub listed : Option (List Put)
  pub lists : WritesLines files.lines kept worked listed
  pub saves : IsSaved files.save floor listed new

-- the report is written, and then the requested files
pub record IsPut (files : RepairPaths) (text : List ℕ) (document : Document) (floor : FloorState)
    (kept : Option (List ℕ)) (report : List ℕ)
    (before after : Option (List ℕ)) (old_puts new_puts : Option (List Put)) : Type 0 where
  pub reported : Appends before after report
  pub written : AreWritten files text document floor kept old_puts new_puts

-- ---- faults

-- a requested file cannot be written
abbrev pub IsFileOutputFault : RepairPaths → Fault → Type 0
IsFileOutputFault files fault = IsOutputFault Export files.export fault
    ⊎ (IsOutputFault Working files.working fault
    ⊎ (IsOutputFault Lines files.lines fault ⊎ IsOutputFault Save files.save fault))

-- the requested files are not all written: those in front of the one at fault are, and no other
abbrev pub AreNotPut : RepairPaths → List ℕ → Document → FloorState → Option (List ℕ) → Option (List Put)
    → Option (List Put) → Fault → Type 0
AreNotPut files text document floor kept old new fault =
    (IsOutputFault Export files.export fault × (new ≡ old))
    ⊎ ((IsOutputFault Working files.working fault × AreWritten (first_file files) text document floor kept old new)
    ⊎ ((IsOutputFault Lines files.lines fault × AreWritten (two_files files) text document floor kept old new)
    ⊎ (IsOutputFault Save files.save fault × AreWritten (three_files files) text document floor kept old new)))

-- the report is not written, or only a prefix of it, and no file is written; or the report is
-- written, and the requested files are not
abbrev pub IsNotPut : RepairPaths → List ℕ → Document → FloorState → Option (List ℕ) → List ℕ
    → Option (List ℕ) → Option (List ℕ)
    → Option (List Put) → Option (List Put) → Fault → Type 0
IsNotPut files text document floor kept report before after old new fault =
    ((fault ≡ Output) × ((n : ℕ) × Appends before after (take n report)) × (new ≡ old))
    ⊎ (Appends before after report × AreNotPut files text document floor kept old new fault)

-- what a fault means if the task uses only a writer and files, given whether each had failed
-- earlier and has failed now
abbrev pub BlamesOutputs : Fault → Type 0 → Bool → Bool → Bool → Bool → Type 0
BlamesOutputs fault kept write_before write_now file_before file_now =
    BlamesDevices fault kept ⊥ (write_now ≡ true) (file_now ≡ true) ⊥
    ((write_now ≡ write_before) × (file_now ≡ file_before))
