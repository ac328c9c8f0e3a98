use Rattle.lf_repair_bounds.proofs.Ways.{none_better}
use Rattle.lf_repair_bounds.proofs.laws.no_repair_does_better.Goals as goal

pub returns : goal.returns
returns c = none_better
