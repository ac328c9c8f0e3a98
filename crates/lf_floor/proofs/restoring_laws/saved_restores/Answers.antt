use Rattle.lf_floor.proofs.Restoring.{saved_back}
use Rattle.lf_floor.proofs.restoring_laws.saved_restores.Goals as goal

pub returns : goal.returns
returns c = saved_back
