use Rattle.lf_laws_slices.proofs.CutsThere.{cut_there}
use Rattle.lf_laws_slices.proofs.text_laws.cuts_exist.Goals as goal

pub returns : goal.returns
returns c = λ number whole a loaded. cut_there number whole a loaded
