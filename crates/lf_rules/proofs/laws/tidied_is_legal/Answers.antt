use Rattle.lf_rules.proofs.TidyLemmas.{tidied_legal}
use Rattle.lf_rules.proofs.laws.tidied_is_legal.Goals as goal

pub returns : goal.returns
returns c l f team padding cells new moved sized is = tidied_legal l f team padding cells new moved sized is
