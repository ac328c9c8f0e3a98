use Rattle.lf_rules.proofs.DesignLemmas.{teams_legal}
use Rattle.lf_rules.proofs.laws.teams_make_legal.Goals as goal

pub returns : goal.returns
returns c f teams legal = teams_legal f teams legal
