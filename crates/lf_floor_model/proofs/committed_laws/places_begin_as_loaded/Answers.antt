use Rattle.lf_floor_model.proofs.Places.{places_begin}
use Rattle.lf_floor_model.proofs.committed_laws.places_begin_as_loaded.Goals as goal

pub returns : goal.returns
returns c = places_begin
