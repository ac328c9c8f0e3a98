use Rattle.std.proofs.Common.{◌∷◌, take}
use Rattle.std.specs.List.{flat_map}
use Rattle.lf_io.specs.Output.{PutsText}
use Rattle.lf_team_def.specs.Words.{def_word_text}
use Rattle.lf_team_def.proofs.words.put_spaced.Given as goal

abbrev pub invariant-loop-word : goal.invariant-loop-word
invariant-loop-word g l = PutsText g.O.Output.took l.fn.out l.out (flat_map (λ w. 32 ∷ def_word_text w) (take l.word-index l.words))
