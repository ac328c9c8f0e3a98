use Rattle.lf_rules.proofs.WiderLemmas.{either_way}
use Rattle.lf_rules.proofs.laws.padding_is_symmetric.Goals as goal

pub returns : goal.returns
returns c by a b least wide_a wide_b m = either_way by a b least wide_a wide_b m
