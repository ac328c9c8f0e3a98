use Rattle.lf_hub.specs.World.{run, start}
use Rattle.lf_hub.proofs.Kept.{kept_run, kept_start, replies_are_own}
use Rattle.lf_hub.proofs.laws.replies_are_own.Goals as goal

pub returns : goal.returns
returns c = λ events runs. replies_are_own (run events start) (kept_run events start kept_start runs)
