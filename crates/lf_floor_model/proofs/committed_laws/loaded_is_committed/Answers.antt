use Rattle.lf_floor_model.proofs.Loading.{loaded_committed}
use Rattle.lf_floor_model.proofs.committed_laws.loaded_is_committed.Goals as goal

pub returns : goal.returns
returns c design = loaded_committed design
