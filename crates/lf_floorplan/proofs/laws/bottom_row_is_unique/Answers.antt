use Rattle.lf_floorplan.proofs.RowSupportLemmas.{height_one, bottom_one}
use Rattle.lf_floorplan.proofs.laws.bottom_row_is_unique.Goals as goal

pub returns : goal.returns
returns c = record { height = height_one; bottom = bottom_one }
