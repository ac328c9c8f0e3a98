use Rattle.lf_floor.proofs.Unplacing.{one_committed}
use Rattle.lf_floor.proofs.start_unplaced.commit.Goals as goal

pub returns : goal.returns
returns c = one_committed c.args.cells.now c.commit_team.new.self c.args.team c.commit_team.ensures.cells c.commit_team.ensures.components
