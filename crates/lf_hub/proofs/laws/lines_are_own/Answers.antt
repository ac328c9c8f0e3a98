use Rattle.lf_hub.specs.World.{run, start}
use Rattle.lf_hub.proofs.Kept.{kept_run, kept_start, lines_are_own}
use Rattle.lf_hub.proofs.laws.lines_are_own.Goals as goal

pub returns : goal.returns
returns c = λ events runs. lines_are_own (run events start) (kept_run events start kept_start runs)
