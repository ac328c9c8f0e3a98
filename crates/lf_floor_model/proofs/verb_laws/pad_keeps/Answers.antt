use Rattle.lf_floor_model.proofs.VerbBack.{pad_keeps}
use Rattle.lf_floor_model.proofs.verb_laws.pad_keeps.Goals as goal

pub returns : goal.returns
returns c t session padding s may = pad_keeps t session padding s may
