use Rattle.std.proofs.Common.{refl, subst}
use Rattle.lf_state_text.specs.Writing.{spaced_state_word}
use Rattle.lf_state_text.proofs.Lines.{put_all}
use Rattle.lf_state_text.proofs.write.put_spaced.Goals as goal

pub returns : goal.returns
returns g c = λ start before had.
    subst (g.O.Output.took start c.loop-word.out)
    (put_all spaced_state_word before _ c.args.words.now c.loop-word.word-index c.loop-word-test.false refl)
    (c.loop-word.invariant start before had)
