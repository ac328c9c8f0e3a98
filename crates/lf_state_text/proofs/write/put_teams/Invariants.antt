use Rattle.std.proofs.Common.{take}
use Rattle.std.specs.Prelude.{All}
use Rattle.lf_io.specs.Output.{PutsText}
use Rattle.lf_state_text.specs.Saved.{IsSavedInRange, lines_by, saved_team_lines}
use Rattle.lf_state_text.proofs.write.put_teams.Given as goal

abbrev pub invariant-loop-team : goal.invariant-loop-team
invariant-loop-team g l = record {
  text : PutsText g.O.Output.took l.fn.out l.out (lines_by saved_team_lines (g.D.DesignSchema.named l.design).teams (take l.team (g.T.TeamViews.saved l.teams)));
  in_range : All IsSavedInRange (take l.team (g.T.TeamViews.saved l.teams));
}
