use Rattle.lf_hub.specs.World.{start}
use Rattle.lf_hub.proofs.Kept.{kept_start, teams_run}
use Rattle.lf_hub.proofs.laws.teams_are_own.Goals as goal

pub returns : goal.returns
returns c = λ events runs. (teams_run events start kept_start runs (tt, tt)).1
