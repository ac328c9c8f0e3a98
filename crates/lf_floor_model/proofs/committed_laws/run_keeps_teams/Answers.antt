use Rattle.lf_floor_model.proofs.Running.{run_teams}
use Rattle.lf_floor_model.proofs.committed_laws.run_keeps_teams.Goals as goal

pub returns : goal.returns
returns c l old new commands replies known run = run_teams l commands replies old new known run
