use Rattle.lf_floor_model.proofs.Isolation.{isolated_from_run}
use Rattle.lf_floor_model.proofs.laws.run_is_isolated.Goals as goal

pub returns : goal.returns
returns c = λ l old new commands replies run. isolated_from_run l commands replies old new run
