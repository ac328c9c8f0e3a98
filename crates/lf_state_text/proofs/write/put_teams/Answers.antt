use Rattle.std.proofs.Common.{◌++◌, ap, subst, sym, ◌∙◌, [], take, arith}
use Rattle.std.specs.Prelude.{All}
use Rattle.std.proofs.lemmas.List.{take_all}
use Rattle.std.proofs.lemmas.List.Elements.{All-more, All-nil}
use Rattle.lf_state_text.specs.Designs.{NamedTeam}
use Rattle.lf_state_text.specs.Saved.{IsSavedInRange, SavedTeam, lines_by, saved_team_lines}
use Rattle.lf_state_text.proofs.Lines.{all_lines, line_there, next_line, no_line}
use Rattle.lf_state_text.proofs.write.put_teams.Goals as goal

abbrev no_named : NamedTeam
no_named = record { name = []; cells = [] }

abbrev no_saved : SavedTeam
no_saved = record { revision = 0; padding = 0; slots = []; cells = []; entries = [] }

pub loop-team-init : goal.loop-team-init
loop-team-init g c = record {
  text = λ start before had. subst (g.O.Output.took start c.args.out.now) (no_line saved_team_lines before (g.D.DesignSchema.named c.args.design.now).teams) had;
  in_range = All-nil IsSavedInRange;
}

pub loop-team-preserved : goal.loop-team-preserved
loop-team-preserved g c =
    let named = (g.D.DesignSchema.named c.args.design.now).teams in
    let saved = g.T.TeamViews.saved c.args.teams.now in
    let k = c.loop-team.team in
    record {
      text = λ start before had.
          subst (g.O.Output.took start c.put_team.new.out)
          (ap (λ l. (before ++ lines_by saved_team_lines named (take k saved)) ++ l) (sym (line_there saved_team_lines named saved k no_named no_saved (omega (arith, c.loop-team-test.true, c.team_count-team-end.ensures))
          (omega (arith, c.loop-team-test.true, c.team_count-team-end.ensures, c.requires))))
          ∙ next_line saved_team_lines before named saved k)
          (c.put_team.ensures.text start _ (c.loop-team.invariant.text start before had));
      in_range =
          All-more IsSavedInRange saved k no_saved (omega (arith, c.loop-team-test.true, c.team_count-team-end.ensures, c.requires)) c.loop-team.invariant.in_range c.put_team.ensures.in_range;
    }

pub returns-clause-text : goal.returns-clause-text
returns-clause-text g c = λ start before had.
    subst (g.O.Output.took start c.loop-team.out)
    (all_lines saved_team_lines before (g.D.DesignSchema.named c.args.design.now).teams (g.T.TeamViews.saved c.args.teams.now) c.loop-team.team
    (omega (arith, c.loop-team-test.false, c.team_count-team-end.ensures, c.requires)))
    (c.loop-team.invariant.text start before had)

pub returns-clause-in_range : goal.returns-clause-in_range
returns-clause-in_range g c =
    subst (λ ts. All IsSavedInRange ts) (take_all c.loop-team.team (g.T.TeamViews.saved c.args.teams.now) (omega (arith, c.loop-team-test.false, c.team_count-team-end.ensures, c.requires)))
    c.loop-team.invariant.in_range
