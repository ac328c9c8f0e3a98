use Rattle.lf_floor.proofs.Legality.{restored_committed}
use Rattle.lf_floor.proofs.restoring_laws.restored_is_committed.Goals as goal

pub returns : goal.returns
returns c = restored_committed
