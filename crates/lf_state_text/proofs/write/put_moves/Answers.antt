use Rattle.std.proofs.Common.{refl, subst}
use Rattle.lf_state_text.specs.Writing.{move_within}
use Rattle.lf_state_text.proofs.Lines.{put_all}
use Rattle.lf_state_text.proofs.write.put_moves.Goals as goal

pub returns : goal.returns
returns g c = λ start before had.
    subst (g.O.Output.took start c.loop-made.out)
    (put_all (move_within c.args.cells) before _ c.args.moves.now c.loop-made.made-index c.loop-made-test.false refl)
    (c.loop-made.invariant start before had)
