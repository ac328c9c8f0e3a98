use Rattle.std.proofs.Common.{◌≡◌, take}
use Rattle.lf_frame.specs.MacroTables.{macros_of}
use Rattle.lf_frame.proofs.macro_numbers.macro_table.Given as goal

abbrev pub invariant-loop-component : goal.invariant-loop-component
invariant-loop-component l = l.numbers.items ≡ macros_of l.library (take l.component-index l.components)
