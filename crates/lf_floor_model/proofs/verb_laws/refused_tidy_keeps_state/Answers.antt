use Rattle.lf_floor_model.proofs.VerbBack.{stuck_is}
use Rattle.lf_floor_model.proofs.verb_laws.refused_tidy_keeps_state.Goals as goal

pub returns : goal.returns
returns c t session stuck s may is = stuck_is t session stuck s may is
