use Rattle.std.proofs.Common.{subst}
use Rattle.lf_state_text.specs.Writing.{state_word_text}
use Rattle.lf_state_text.proofs.Lines.{line_put}
use Rattle.lf_state_text.proofs.write.put_line.Goals as goal

pub returns : goal.returns
returns g c = λ start before had.
    subst (g.O.Output.took start c.put.new.self) (line_put before (state_word_text c.args.first.now) c.args.words.now)
    (c.put.ensures start _ (c.put_spaced.ensures start _ (c.put_word.ensures start before had)))
