use Rattle.std.proofs.Common.{◌++◌, ◌∷◌, ap, sym, refl, subst, ◌∙◌}
use Rattle.lf_team_def.specs.Words.{def_word_text}
use Rattle.lf_team_def.proofs.Lines.{put_all, spaced_map}
use Rattle.lf_team_def.proofs.words.put_spaced.Goals as goal

pub returns : goal.returns
returns g c = λ start before had.
    subst (g.O.Output.took start c.loop-word.out)
    (put_all (λ w. 32 ∷ def_word_text w) before _ c.args.words.now c.loop-word.word-index c.loop-word-test.false refl
    ∙ ap (λ l. before ++ l) (sym (spaced_map def_word_text c.args.words.now)))
    (c.loop-word.invariant start before had)
