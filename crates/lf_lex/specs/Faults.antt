-- The fault that a public reader returns.
use Rattle.std.specs.Prelude.{Some, None}
use Rattle.lf_lex.specs.declared.fault.LoadFault.{LoadFault}
use Rattle.lf_lex.specs.declared.fault.FaultNumber.TheVariants.{OutOfMemory}
use Rattle.lf_lex.specs.declared.fault.ReadError.{ReadError}
use Rattle.lf_lex.specs.declared.fault.ReadError.TheVariants.{Memory, Fault}

-- A fault of the text with its number and line; a failed allocation with neither line nor name.
abbrev pub load_fault_of : ReadError → LoadFault
load_fault_of Memory = record { number = OutOfMemory; line = None; name = None }
load_fault_of (Fault f) = record { number = f.number; line = Some f.line; name = None }
