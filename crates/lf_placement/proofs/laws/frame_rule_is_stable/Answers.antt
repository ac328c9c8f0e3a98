use Rattle.lf_placement.proofs.FirstBroken.{alone_lasts}
use Rattle.lf_placement.proofs.laws.frame_rule_is_stable.Goals as goal

pub returns : goal.returns
returns c = alone_lasts
