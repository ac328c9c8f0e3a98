use Rattle.lf_floorplan.specs.LoadedCells.{borrowed_cell}
use Rattle.lf_repair_bounds.proofs.Ways.{unplaced_none}
use Rattle.lf_repair_bounds.proofs.min_displacement.min_displacement.Goals as goal

pub returns-in-None : goal.returns-in-None
returns-in-None c = λ way is. unplaced_none c.args.lone.now.frame.now (borrowed_cell c.args.lone.now.cell.now) c.in-None.is way is
