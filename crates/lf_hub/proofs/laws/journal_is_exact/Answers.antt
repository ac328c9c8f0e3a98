use Rattle.lf_hub.specs.World.{start}
use Rattle.lf_hub.proofs.Kept.{kept_run, kept_start}
use Rattle.lf_hub.proofs.laws.journal_is_exact.Goals as goal

pub returns : goal.returns
returns c = λ events runs. (kept_run events start kept_start runs).journal
