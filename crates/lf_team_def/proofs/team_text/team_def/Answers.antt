use Rattle.std.proofs.Common.{[]}
use Rattle.lf_cells.specs.Cells.{cells_of}
use Rattle.lf_team_def.specs.TeamText.{team_text}
use Rattle.lf_team_def.proofs.team_text.team_def.Goals as goal

pub returns : goal.returns
returns c =
    c.finish.ensures c.in_ok-kept.kept (team_text c.args.frame.now c.args.team (cells_of c.args.cells.now c.args.team))
    (c.write_team_def.ensures c.in_ok-kept.kept [] c.in_ok-kept.ensures)
