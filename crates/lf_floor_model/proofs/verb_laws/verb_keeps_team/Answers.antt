use Rattle.lf_floor_model.proofs.Kept.{verb_keeps}
use Rattle.lf_floor_model.proofs.verb_laws.verb_keeps_team.Goals as goal

pub returns : goal.returns
returns c t verb s known = verb_keeps t verb s known
