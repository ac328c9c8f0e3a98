use Rattle.lf_floor_model.proofs.Places.{places_follow}
use Rattle.lf_floor_model.proofs.committed_laws.places_follow_design.Goals as goal

pub returns : goal.returns
returns c = places_follow
