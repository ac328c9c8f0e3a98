use Rattle.lf_floor_model.proofs.Committing.{order_keeps}
use Rattle.lf_floor_model.proofs.committed_laws.command_keeps_committed.Goals as goal

pub returns : goal.returns
returns c t order s known before = order_keeps t s known order before
