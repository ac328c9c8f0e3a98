use Rattle.lf_laws_slices.proofs.Rules.{rule_on, rule_back}
use Rattle.lf_laws_slices.proofs.laws.rules_are_alike.Goals as goal

pub returns : goal.returns
returns c = λ t g r a. (rule_on t g a r, rule_back t g a r)
