use Rattle.lf_improve_team.proofs.Lengths.{places_are_one}
use Rattle.lf_improve_team.proofs.laws.working_places_are_one.Goals as goal

pub returns : goal.returns
returns c = places_are_one
