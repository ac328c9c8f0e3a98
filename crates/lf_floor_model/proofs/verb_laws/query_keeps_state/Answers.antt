use Rattle.lf_floor_model.proofs.Kept.{look_kept}
use Rattle.lf_floor_model.proofs.verb_laws.query_keeps_state.Goals as goal

pub returns : goal.returns
returns c t verb s = look_kept t verb s
