use Rattle.lf_hub_floor.proofs.OwnReplies.{own_replies_same}
use Rattle.lf_hub_floor.proofs.laws.replies_are_own.Goals as goal

pub returns : goal.returns
returns c = own_replies_same
