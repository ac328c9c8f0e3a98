use Rattle.std.proofs.Common.{subst, arith}
use Rattle.std.specs.Prelude.{All}
use Rattle.std.proofs.lemmas.List.{take_all}
use Rattle.std.proofs.lemmas.List.Elements.{All-nil}
use Rattle.lf_state_text.specs.Designs.{named_team_of}
use Rattle.lf_state_text.specs.Saved.{IsSpottedCell, cell_line, saved_at}
use Rattle.lf_state_text.proofs.Lines.{all_lines, next_line, no_line, one_more_is}
use Rattle.lf_state_text.proofs.write.put_cells.Goals as goal

pub loop-own-init : goal.loop-own-init
loop-own-init g c = record {
  text = λ start before had.
      subst (g.O.Output.took start c.args.out.now) (no_line cell_line before (named_team_of (g.D.DesignSchema.named c.args.design.now) c.args.team).cells) had;
  spotted = All-nil IsSpottedCell;
}

pub loop-own-preserved : goal.loop-own-preserved
loop-own-preserved g c =
    let cells = (saved_at (g.T.TeamViews.saved c.args.teams.now) c.args.team).cells in
    record {
      text = λ start before had.
          subst (g.O.Output.took start c.put_cell_at.new.out)
          (next_line cell_line before (named_team_of (g.D.DesignSchema.named c.args.design.now) c.args.team).cells cells c.loop-own.own)
          (c.put_cell_at.ensures.text start _ (c.loop-own.invariant.text start before had));
      spotted = one_more_is IsSpottedCell cells c.loop-own.own (omega (arith, c.loop-own-test.true, c.cell_count-own-end.ensures)) c.loop-own.invariant.spotted c.put_cell_at.ensures.spotted;
    }

pub returns-clause-text : goal.returns-clause-text
returns-clause-text g c = λ start before had.
    subst (g.O.Output.took start c.loop-own.out)
    (all_lines cell_line before (named_team_of (g.D.DesignSchema.named c.args.design.now) c.args.team).cells (saved_at (g.T.TeamViews.saved c.args.teams.now) c.args.team).cells c.loop-own.own
    (omega (arith, c.loop-own-test.false, c.cell_count-own-end.ensures)))
    (c.loop-own.invariant.text start before had)

pub returns-clause-spotted : goal.returns-clause-spotted
returns-clause-spotted g c =
    let cells = (saved_at (g.T.TeamViews.saved c.args.teams.now) c.args.team).cells in
    subst (λ cs. All IsSpottedCell cs) (take_all c.loop-own.own cells (omega (arith, c.loop-own-test.false, c.cell_count-own-end.ensures))) c.loop-own.invariant.spotted
