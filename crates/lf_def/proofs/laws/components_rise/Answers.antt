use Rattle.lf_def.proofs.Rising.{components_rise}
use Rattle.lf_def.proofs.laws.components_rise.Goals as goal

pub returns : goal.returns
returns c = λ text. components_rise text
