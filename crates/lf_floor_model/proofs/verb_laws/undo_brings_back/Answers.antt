use Rattle.lf_floor_model.proofs.VerbBack.{undo_leads}
use Rattle.lf_floor_model.proofs.verb_laws.undo_brings_back.Goals as goal

pub returns : goal.returns
returns c t session other change s recorded accepted may = undo_leads t session other change s recorded accepted may
