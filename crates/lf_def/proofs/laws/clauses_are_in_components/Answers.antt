use Rattle.lf_def.proofs.Clauses.{components_have_clauses}
use Rattle.lf_def.proofs.laws.clauses_are_in_components.Goals as goal

pub returns : goal.returns
returns c = λ l m x. components_have_clauses l m x
