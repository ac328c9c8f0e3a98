use Rattle.lf_rules.proofs.KeptLemmas.{tidied_kept}
use Rattle.lf_rules.proofs.laws.tidied_keeps_cells.Goals as goal

pub returns : goal.returns
returns c l f team padding cells new moved is = tidied_kept l f team padding cells new moved is
