use Rattle.std.proofs.Common.{◌++◌, ap, subst, append_assoc, ◌∙◌}
use Rattle.lf_state_text.specs.Saved.{lines_by, opening_lines, saved_team_lines}
use Rattle.lf_state_text.proofs.write.write_state.Goals as goal

pub returns-clause-text : goal.returns-clause-text
returns-clause-text g c = λ start before had.
    let lines = lines_by saved_team_lines (g.D.DesignSchema.named c.args.design.now).teams (g.T.TeamViews.saved c.args.teams.now) in
    subst (g.O.Output.took start c.put_teams.new.out)
    (append_assoc before (opening_lines c.team_count.result) lines ∙ ap (λ n. before ++ (opening_lines n ++ lines)) c.team_count.ensures)
    (c.put_teams.ensures.text start _ (c.put_opening.ensures start before had))
