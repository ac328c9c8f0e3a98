use Rattle.lf_floorplan.proofs.GroundLemmas.{teams_apart}
use Rattle.lf_floorplan.proofs.laws.teams_stay_apart.Goals as goal

pub returns : goal.returns
returns c f s t a b differ first second meet = teams_apart f s t a b differ first second meet
