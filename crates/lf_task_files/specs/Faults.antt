-- Faults of the files that a task writes, the exit statuses of tasks, and which device is to blame.
use Rattle.std.specs.Prelude.{◌≡◌, ◌⊎◌, ℕ, Bool, true, List, Option, Some, None}
use Rattle.std.specs.Borrow.{Bor}
use Rattle.lf_io.specs.declared.output_files.WriteFailure.{WriteFailure}
use Rattle.lf_io.specs.declared.output_files.WriteFailure.TheVariants as failure
use Rattle.lf_task_faults.specs.declared.faults.Fault.{Fault}
use Rattle.lf_task_faults.specs.declared.faults.Fault.TheVariants.{NotWritten, OutputOutOfMemory}
use Rattle.lf_task_faults.specs.declared.faults.OutputKind.{OutputKind}
use Rattle.lf_task_faults.specs.Faults.{IsReportFault}

-- ---- the exit statuses

-- The exit statuses of tasks that failed.
abbrev pub IsFailure : ℕ → Type 0
IsFailure status = (status ≡ 1) ⊎ (status ≡ 3)

-- The exit statuses of tasks that succeeded: 4 is that of a check, a description or a repair of a
-- design that is not fully legal.
abbrev pub IsDone : ℕ → Type 0
IsDone status = (status ≡ 0) ⊎ (status ≡ 4)

-- ---- what is not written

-- A description was not written: an allocation failed, for its first or a later line, or the writer
-- failed.
abbrev pub IsDescriptionFault : Fault → Type 0
IsDescriptionFault fault = IsReportFault fault ⊎ (fault ≡ OutputOutOfMemory)

-- The fault of a file of this kind that is not written to this path.
abbrev pub output_fault : OutputKind → Bor (List ℕ) → WriteFailure → Fault
output_fault kind path (failure.File why) = NotWritten kind path why
output_fault kind path failure.OutOfMemory = OutputOutOfMemory

-- The file of this kind cannot be written to this path.
abbrev pub IsNotWritten : OutputKind → List ℕ → Fault → Type 0
IsNotWritten kind path (NotWritten its_kind its why) = (its_kind ≡ kind) × (its.now ≡ path)
IsNotWritten kind path _ = ⊥

-- Why a file of this kind is not written to the requested path: an allocation for it failed, or the
-- file cannot be written.
abbrev pub IsOutputFault : OutputKind → Option (List ℕ) → Fault → Type 0
IsOutputFault kind None fault = ⊥
IsOutputFault kind (Some path) fault = (fault ≡ OutputOutOfMemory) ⊎ IsNotWritten kind path fault

-- ---- which device is to blame

-- Whether the file that is not written has failed. It has if it cannot be written, and not if
-- memory ran out.
abbrev pub ExportFails : Fault → Bool → Bool → Type 0
ExportFails (NotWritten kind path why) before now = now ≡ true
ExportFails OutputOutOfMemory before now = now ≡ before
ExportFails _ before now = ⊥
