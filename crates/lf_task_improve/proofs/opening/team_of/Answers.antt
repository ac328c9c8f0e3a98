use Rattle.lf_wire_nets.proofs.CellLemmas.{is_there}
use Rattle.lf_task_improve.proofs.Openings.{team_few, team_there}
use Rattle.lf_task_improve.proofs.opening.team_of.Goals as goal

pub unwrap-requires : goal.unwrap-requires
unwrap-requires c = is_there c.args.loaded.now.cells c.args.at c.get.result c.get.ensures c.requires

pub returns : goal.returns
returns c = team_there c.args.loaded.now c.args.at c.get.result c.unwrap.result c.get.ensures c.unwrap.ensures
