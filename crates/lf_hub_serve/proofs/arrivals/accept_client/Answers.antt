use Rattle.std.proofs.Common.{refl, ap, ◌∙◌}
use Rattle.std.proofs.lemmas.Result.{err_from_is_err_and}
use Rattle.lf_hub_clients.specs.Turns.{IsAnswered}
use Rattle.lf_hub_wire.specs.Calls.{Accepted}
use Rattle.lf_hub_serve.proofs.Services.{opened, lost}
use Rattle.lf_hub_serve.proofs.arrivals.accept_client.Goals as goal

pub returns-clause-ok : goal.returns-clause-ok
returns-clause-ok g c =
    let arrival = c.in-Some.arrival in
    opened (IsAnswered g.F.Floor.answers g.F.Floor.shows) c.args.server.now.core.hub c.opens.new.self.hub c.args.server.now.floor
    (g.W.Wire.calls c.args.server.now.wire) (g.W.Wire.calls c.accept.new.self) (g.W.Wire.calls c.seat.new.self)
    c.in_ok-slot.slot arrival.team c.number.result arrival.access
    c.in_ok-slot.ensures.may c.in_ok-slot.ensures.after (c.number.ensures ∙ ap (λ x. x.number) c.in-Some-client.ensures.some)
    c.in-Some.ensures.some c.seat.ensures.calls

pub returns-in_err-slot-clause-err : goal.returns-in_err-slot-clause-err
returns-in_err-slot-clause-err g c =
    let p = err_from_is_err_and c.from_residual.result c.from_residual.ensures.1 in
    rw p.1 (lost (IsAnswered g.F.Floor.answers g.F.Floor.shows) c.args.server.now.core.hub c.opens.new.self.hub c.args.server.now.floor
    (g.W.Wire.calls c.args.server.now.wire) (g.W.Wire.calls c.accept.new.self) (Accepted c.in-Some.arrival.team c.in-Some.arrival.access)
    refl c.in_err-slot.ensures.err c.in-Some.ensures.some)
