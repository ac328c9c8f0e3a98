use Rattle.std.proofs.Common.{take}
use Rattle.std.specs.List.{flat_map}
use Rattle.lf_io.specs.Output.{PutsText}
use Rattle.lf_state_text.specs.Writing.{move_within}
use Rattle.lf_state_text.proofs.write.put_moves.Given as goal

abbrev pub invariant-loop-made : goal.invariant-loop-made
invariant-loop-made g l = PutsText g.O.Output.took l.fn.out l.out (flat_map (move_within l.cells) (take l.made-index l.moves))
