use Rattle.lf_hub.specs.World.{start}
use Rattle.std.proofs.Common.{refl}
use Rattle.lf_hub_clients.specs.Turns.{IsAnswered}
use Rattle.lf_hub.proofs.Crash.{follow-run}
use Rattle.lf_hub.proofs.laws.lines_run.Goals as goal

pub returns : goal.returns
returns g c = λ events old new runs acts. follow-run (IsAnswered g.F.Floor.answers g.F.Floor.shows) events start old old new refl acts
