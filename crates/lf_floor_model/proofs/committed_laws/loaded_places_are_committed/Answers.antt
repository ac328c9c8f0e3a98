use Rattle.lf_floor_model.proofs.Loading.{loaded_places}
use Rattle.lf_floor_model.proofs.committed_laws.loaded_places_are_committed.Goals as goal

pub returns : goal.returns
returns c design team number s named there = loaded_places design team number s named there
