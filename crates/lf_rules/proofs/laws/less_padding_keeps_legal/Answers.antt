use Rattle.lf_rules.proofs.LegalParts.{legal_with_less}
use Rattle.lf_rules.proofs.laws.less_padding_keeps_legal.Goals as goal

pub returns : goal.returns
returns c t less upto legal = legal_with_less t less upto legal
