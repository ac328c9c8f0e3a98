use Rattle.std.proofs.Common.{◌++◌, ap, sym, refl, subst, ◌∙◌}
use Rattle.lf_lex.specs.Splices.{spaced}
use Rattle.lf_team_def.specs.TeamText.{team_rect_words}
use Rattle.lf_team_def.proofs.Lines.{put_all, spaced_flat}
use Rattle.lf_team_def.proofs.def_entries.put_rects.Goals as goal

pub returns : goal.returns
returns g c = λ start before had.
    subst (g.O.Output.took start c.loop-rect.out)
    (put_all (λ r. spaced (team_rect_words r)) before _ c.args.rects.now c.loop-rect.rect-index c.loop-rect-test.false refl
    ∙ ap (λ l. before ++ l) (sym (spaced_flat team_rect_words c.args.rects.now)))
    (c.loop-rect.invariant start before had)
