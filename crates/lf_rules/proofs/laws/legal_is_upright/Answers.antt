use Rattle.lf_rules.proofs.SiteLemmas.{legal_upright, upright_of_four}
use Rattle.lf_rules.proofs.laws.legal_is_upright.Goals as goal

pub returns : goal.returns
returns c cell p legal = upright_of_four p.orient (legal_upright cell p legal)
