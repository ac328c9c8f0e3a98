use Rattle.lf_state_text.specs.Saved.{team_views}
use Rattle.lf_floor.proofs.Placing.{as_many}
use Rattle.lf_floor.proofs.restore.place_cells.Goals as goal

pub place_teams-requires : goal.place_teams-requires
place_teams-requires c = as_many (team_views c.args.rows.now) c.args.tables c.requires.tables c.requires.due
