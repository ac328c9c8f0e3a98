use Rattle.lf_floor_model.proofs.Kept.{refusal_leaves}
use Rattle.lf_floor_model.proofs.verb_laws.refusal_keeps_state.Goals as goal

pub returns : goal.returns
returns c t verb s = refusal_leaves t verb s
