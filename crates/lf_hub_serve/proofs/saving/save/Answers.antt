use Rattle.lf_hub_clients.specs.Turns.{IsAnswered}
use Rattle.lf_hub_serve.proofs.Services.{synced}
use Rattle.lf_hub_serve.proofs.saving.save.Goals as goal

pub returns-clause-ok : goal.returns-clause-ok
returns-clause-ok g c =
    synced (IsAnswered g.F.Floor.answers g.F.Floor.shows) c.args.server.now.core.hub c.synced.new.self.hub c.args.server.now.floor
    (g.W.Wire.calls c.args.server.now.wire) c.synced.ensures.after
