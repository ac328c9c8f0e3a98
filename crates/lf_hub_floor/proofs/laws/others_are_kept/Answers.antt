use Rattle.lf_hub_floor.proofs.Runs.{keeps_others}
use Rattle.lf_hub_floor.proofs.laws.others_are_kept.Goals as goal

pub returns : goal.returns
returns c = keeps_others
