use Rattle.lf_floor.proofs.Unplacing.{same_through}
use Rattle.lf_floor.proofs.start_unplaced.unplace_team.Goals as goal

pub returns : goal.returns
returns c = same_through c.args.cells.now c.unplace_up_to.new.cells c.commit.new.cells c.unplace_up_to.ensures c.commit.ensures
