use Rattle.lf_floor_model.proofs.VerbBack.{revert_leads}
use Rattle.lf_floor_model.proofs.verb_laws.revert_after_commit_keeps.Goals as goal

pub returns : goal.returns
returns c t session other s accepted may = revert_leads t session other s accepted may
