use Rattle.lf_rules.proofs.Verdicts.{verdict_there}
use Rattle.lf_rules.proofs.laws.verdict_exists.Goals as goal

pub returns : goal.returns
returns c t sized = verdict_there t sized
