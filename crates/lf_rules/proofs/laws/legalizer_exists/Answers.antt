use Rattle.lf_rules.proofs.Legalizers.{legalizer}
use Rattle.lf_rules.proofs.laws.legalizer_exists.Goals as goal

pub returns : goal.returns
returns c = legalizer
