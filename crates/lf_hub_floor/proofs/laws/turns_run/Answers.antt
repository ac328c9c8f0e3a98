use Rattle.lf_hub_floor.proofs.Runs.{run_turns}
use Rattle.lf_hub_floor.proofs.laws.turns_run.Goals as goal

pub returns : goal.returns
returns c = run_turns
