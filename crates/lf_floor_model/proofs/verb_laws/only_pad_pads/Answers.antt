use Rattle.lf_floor_model.proofs.Kept.{padding_stays}
use Rattle.lf_floor_model.proofs.verb_laws.only_pad_pads.Goals as goal

pub returns : goal.returns
returns c t verb s other = padding_stays t verb s other
