use Rattle.std.proofs.Common.{take}
use Rattle.std.specs.List.Sorted.{IsPermutation}
use Rattle.lf_frame.specs.ComponentNames.{numbered_names}
use Rattle.lf_frame.proofs.component_names.parts_of_components.Given as goal

abbrev pub invariant-loop-number : goal.invariant-loop-number
invariant-loop-number l = IsPermutation (numbered_names (take l.number l.components)) l.parts
