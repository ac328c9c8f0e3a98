use Rattle.lf_floor_model.proofs.Parts.{legal_teams}
use Rattle.lf_floor_model.proofs.committed_laws.legal_makes_teams.Goals as goal

pub returns : goal.returns
returns c f teams legal team cells there own = legal_teams f teams legal team cells there own
