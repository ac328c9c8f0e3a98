use Rattle.lf_hub.specs.World.{run, start}
use Rattle.lf_hub_clients.specs.Turns.{IsAnswered}
use Rattle.lf_hub.proofs.Kept.{kept_run, kept_start}
use Rattle.lf_hub.proofs.Crash.{crashed}
use Rattle.lf_hub.proofs.Answered.{others-keep}
use Rattle.lf_hub.proofs.laws.crash_keeps_acknowledged.Goals as goal

pub returns : goal.returns
returns g c = λ events old new left runs follows.
    crashed (IsAnswered g.F.Floor.answers g.F.Floor.shows) (run events start) old new left (others-keep g.F.Floor.answers g.F.Floor.shows) (kept_run events start kept_start runs).journal follows
