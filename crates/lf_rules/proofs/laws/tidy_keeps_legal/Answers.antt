use Rattle.lf_rules.proofs.TidyLemmas.{legal_when_tidied}
use Rattle.lf_rules.proofs.laws.tidy_keeps_legal.Goals as goal

pub returns : goal.returns
returns c l f team padding cells new moved count own other all is is_in_place = legal_when_tidied l f team padding cells new moved count own other all is is_in_place
