use Rattle.lf_floor_model.proofs.Running.{legal_run}
use Rattle.lf_floor_model.proofs.committed_laws.run_stays_legal.Goals as goal

pub returns : goal.returns
returns c l old new commands replies known run legal = legal_run l commands replies old new known run legal
