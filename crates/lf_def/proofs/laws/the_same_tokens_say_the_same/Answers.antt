use Rattle.lf_def.proofs.Same.{says_the_same}
use Rattle.lf_def.proofs.laws.the_same_tokens_say_the_same.Goals as goal

pub returns : goal.returns
returns c = λ a b. says_the_same a b
