use Rattle.lf_floorplan.proofs.GroundLemmas.{ground_one, ground_there}
use Rattle.lf_floorplan.proofs.laws.point_has_one_team.Goals as goal

pub returns : goal.returns
returns c = record { some_team = ground_there; one_team = ground_one }
