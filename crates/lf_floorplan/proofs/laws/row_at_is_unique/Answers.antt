use Rattle.lf_floorplan.proofs.RowAtLemmas.{row_at_one}
use Rattle.lf_floorplan.proofs.laws.row_at_is_unique.Goals as goal

pub returns : goal.returns
returns c = row_at_one
