use Rattle.std.proofs.Common.{take}
use Rattle.std.specs.List.{flat_map}
use Rattle.lf_io.specs.Output.{PutsText}
use Rattle.lf_state_text.specs.Saved.{slot_line}
use Rattle.lf_state_text.proofs.write.put_slots.Given as goal

abbrev pub invariant-loop-slot : goal.invariant-loop-slot
invariant-loop-slot g l = PutsText g.O.Output.took l.fn.out l.out (flat_map slot_line (take l.slot-index l.slots))
