use Rattle.lf_rules.proofs.ChoiceLemmas.{choice_one}
use Rattle.lf_rules.proofs.laws.best_place_is_unique.Goals as goal

pub returns : goal.returns
returns c l target a b h k = choice_one l target a b h k
