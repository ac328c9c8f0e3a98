use Rattle.std.proofs.Common.{take}
use Rattle.std.specs.List.{flat_map}
use Rattle.lf_io.specs.Output.{PutsText}
use Rattle.lf_state_text.specs.Writing.{spaced_state_word}
use Rattle.lf_state_text.proofs.write.put_spaced.Given as goal

abbrev pub invariant-loop-word : goal.invariant-loop-word
invariant-loop-word g l = PutsText g.O.Output.took l.fn.out l.out (flat_map spaced_state_word (take l.word-index l.words))
