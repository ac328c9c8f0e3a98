use Rattle.lf_floor_model.proofs.Stepping.{committed_teams, teams_committed}
use Rattle.lf_floor_model.proofs.committed_laws.committed_by_teams.Goals as goal

pub returns : goal.returns
returns c floor = (λ legal number s there. committed_teams floor legal number s there, λ each. teams_committed floor each)
