use Rattle.lf_floorplan.proofs.CellLemmas.{cell_sized}
use Rattle.lf_floorplan.proofs.laws.cell_is_sized.Goals as goal

pub returns : goal.returns
returns c f cell known = cell_sized f cell known
