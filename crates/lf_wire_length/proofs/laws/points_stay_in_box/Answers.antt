use Rattle.lf_wire_length.proofs.TurnLemmas.{placed_in_box}
use Rattle.lf_wire_length.proofs.laws.points_stay_in_box.Goals as goal

pub returns : goal.returns
returns c place pin inside = placed_in_box place pin inside
