use Rattle.lf_floor_model.proofs.Stepping.{step_keeps}
use Rattle.lf_floor_model.proofs.committed_laws.step_keeps_committed.Goals as goal

pub returns : goal.returns
returns c l old new command reply known step legal = step_keeps l old new command reply known step legal
