use Rattle.std.proofs.Common.{[]}
use Rattle.std.proofs.lemmas.Result.{err_from_is_err_and}
use Rattle.lf_hub_clients.specs.Turns.{IsAnswered}
use Rattle.lf_hub_serve.specs.Servers.{service_of}
use Rattle.lf_hub_serve.proofs.Services.{serves_then, serves_breaks}
use Rattle.lf_hub_serve.proofs.arrivals.read_clients.Goals as goal

pub loop-slot-preserved : goal.loop-slot-preserved
loop-slot-preserved g c =
    serves_then (IsAnswered g.F.Floor.answers g.F.Floor.shows) (service_of g.W.Wire.calls c.args.server.now []) (service_of g.W.Wire.calls c.loop-slot.server []) (service_of g.W.Wire.calls c.read_slot.new.server []) c.loop-slot.invariant c.in_ok-has_come.ensures.ok

pub returns-in-None-clause-ok : goal.returns-in-None-clause-ok
returns-in-None-clause-ok g c =
    serves_then (IsAnswered g.F.Floor.answers g.F.Floor.shows) (service_of g.W.Wire.calls c.args.server.now []) (service_of g.W.Wire.calls c.loop-slot.server []) (service_of g.W.Wire.calls c.read_slot.new.server []) c.loop-slot.invariant c.in_ok-has_come.ensures.ok

pub returns-in_err-has_come-clause-err : goal.returns-in_err-has_come-clause-err
returns-in_err-has_come-clause-err g c =
    let p = err_from_is_err_and c.from_residual.result c.from_residual.ensures.1 in
    rw p.1 (serves_breaks (IsAnswered g.F.Floor.answers g.F.Floor.shows) (service_of g.W.Wire.calls c.args.server.now []) (service_of g.W.Wire.calls c.loop-slot.server []) (service_of g.W.Wire.calls c.read_slot.new.server []) c.loop-slot.invariant c.in_err-has_come.ensures.err)
