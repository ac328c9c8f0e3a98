-- Faults of lines, and which device is to blame.
use Rattle.std.specs.Prelude.{◌≡◌, ℕ, Bool, true, false, Option, Some, None}
use Rattle.lf_server.specs.declared.serve_loop.Ending.{Ending}
use Rattle.lf_server.specs.declared.serve_loop.Ending.TheVariants as ending
use Rattle.lf_task_faults.specs.declared.faults.Fault.{Fault}
use Rattle.lf_task_faults.specs.declared.faults.Fault.TheVariants.{ReadFault, WriteFault, TooManyLines, OutOfMemory}
use Rattle.lf_task_faults.specs.Faults.{BlamesDevices}
use Rattle.lf_task_serve.specs.Lines.{ReadsFail}

-- The fault of lines that ended neither with the input nor with a bye; `None` if they did.
abbrev pub ending_fault : Ending → Option Fault
ending_fault ending.Done = None
ending_fault ending.Bye = None
ending_fault ending.ReadFault = Some ReadFault
ending_fault ending.WriteFault = Some WriteFault
ending_fault ending.TooManyLines = Some TooManyLines
ending_fault ending.OutOfMemory = Some OutOfMemory

-- What a fault implies if `limit` lines of a reader are answered to a writer and neither had failed
-- before.
abbrev pub BlamesStreams : ℕ → Fault → Type 0 → Bool → ℕ → ℕ → Bool → Type 0
BlamesStreams limit fault kept read_failed old_reads new_reads write_failed =
    BlamesDevices fault kept (ReadsFail limit read_failed old_reads new_reads) (write_failed ≡ true) ⊥ ⊥
    ((read_failed ≡ false) × (write_failed ≡ false))
