use Rattle.lf_hub_floor.proofs.OwnReplies.{queries_same}
use Rattle.lf_hub_floor.proofs.laws.queries_are_own.Goals as goal

pub returns : goal.returns
returns c = queries_same
