use Rattle.lf_floor.proofs.Unplacing.{same_cells, same_through}
use Rattle.lf_floor.proofs.start_unplaced.without_places.Goals as goal

pub loop-team-init : goal.loop-team-init
loop-team-init c = same_cells c.args.cells

pub loop-team-preserved : goal.loop-team-preserved
loop-team-preserved c = same_through c.args.cells c.loop-team.bare c.unplace_team.new.cells c.loop-team.invariant c.unplace_team.ensures
