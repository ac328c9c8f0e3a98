use Rattle.lf_floor_model.proofs.Kept.{never_short}
use Rattle.lf_floor_model.proofs.verb_laws.never_out_of_memory.Goals as goal

pub returns : goal.returns
returns c t verb s = never_short t verb s
