use Rattle.std.proofs.Common.{take}
use Rattle.std.specs.Prelude.{All}
use Rattle.lf_io.specs.Output.{PutsText}
use Rattle.lf_state_text.specs.Designs.{named_team_of}
use Rattle.lf_state_text.specs.Saved.{IsSpottedCell, cell_line, lines_by, saved_at}
use Rattle.lf_state_text.proofs.write.put_cells.Given as goal

abbrev pub invariant-loop-own : goal.invariant-loop-own
invariant-loop-own g l = record {
  text : PutsText g.O.Output.took l.fn.out l.out
      (lines_by cell_line (named_team_of (g.D.DesignSchema.named l.design) l.team).cells (take l.own (saved_at (g.T.TeamViews.saved l.teams) l.team).cells));
  spotted : All IsSpottedCell (take l.own (saved_at (g.T.TeamViews.saved l.teams) l.team).cells);
}
