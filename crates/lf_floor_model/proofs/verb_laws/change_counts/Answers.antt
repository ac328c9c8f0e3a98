use Rattle.lf_floor_model.proofs.Kept.{change_counted}
use Rattle.lf_floor_model.proofs.verb_laws.change_counts.Goals as goal

pub returns : goal.returns
returns c t session change s = change_counted t session change s
