use Rattle.std.proofs.Common.{refl}
use Rattle.lf_task_hub.proofs.hub_task.serve_wire.Goals as goal

pub returns-in-Stopped-clause-ok : goal.returns-in-Stopped-clause-ok
returns-in-Stopped-clause-ok g c =
    let s = c.serve_hub.ensures.served (record { hub = c.in-Ok.ensures.hub; wire = c.requires.unused }) in
    (record { calls = g.W.Wire.calls c.serve_hub.new.server.wire; safe = s.0; held = s.1; last = c.serve_hub.new.server.floor; serves = s.2 }, refl)

pub returns-clause-ok : goal.returns-clause-ok
returns-clause-ok g c =
    let s = c.serve_hub.ensures.served (record { hub = c.in-Ok.ensures.hub; wire = c.requires.unused }) in
    (record { calls = g.W.Wire.calls c.serve_hub.new.server.wire; safe = s.0; held = s.1; last = c.serve_hub.new.server.floor; serves = s.2 }, refl)
