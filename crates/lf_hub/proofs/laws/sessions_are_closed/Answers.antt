use Rattle.lf_hub.specs.World.{start}
use Rattle.std.proofs.Common.{refl}
use Rattle.lf_hub.proofs.Kept.{kept_start}
use Rattle.lf_hub.proofs.Sessions.{closed_run}
use Rattle.lf_hub.proofs.laws.sessions_are_closed.Goals as goal

pub returns : goal.returns
returns c = λ events runs. closed_run events start kept_start runs (λ slot below free. refl)
