use Rattle.std.proofs.Common.{[], refl, ◌∙◌}
use Rattle.std.proofs.lemmas.Result.{err_from_is_err_and}
use Rattle.lf_hub_clients.specs.Turns.{IsAnswered}
use Rattle.lf_hub_serve.specs.Servers.{service_of}
use Rattle.lf_hub_serve.proofs.Services.{serves_same, serves_then, serves_breaks}
use Rattle.lf_hub_serve.proofs.departures.send_replies.Goals as goal

pub loop-slot-init : goal.loop-slot-init
loop-slot-init g c =
    let start = service_of g.W.Wire.calls c.args.server.now [] in
    record { served = serves_same (IsAnswered g.F.Floor.answers g.F.Floor.shows) start start refl; records = refl }

pub loop-slot-preserved : goal.loop-slot-preserved
loop-slot-preserved g c = record {
  served = serves_then (IsAnswered g.F.Floor.answers g.F.Floor.shows) (service_of g.W.Wire.calls c.args.server.now []) (service_of g.W.Wire.calls c.loop-slot.server [])
      (service_of g.W.Wire.calls c.serve_slot.new.server []) c.loop-slot.invariant.served c.in_ok-was_sent.ensures.ok;
  records = c.serve_slot.ensures.records ∙ c.loop-slot.invariant.records;
}

pub returns-in-None-clause-ok : goal.returns-in-None-clause-ok
returns-in-None-clause-ok g c =
    serves_then (IsAnswered g.F.Floor.answers g.F.Floor.shows) (service_of g.W.Wire.calls c.args.server.now []) (service_of g.W.Wire.calls c.loop-slot.server []) (service_of g.W.Wire.calls c.serve_slot.new.server []) c.loop-slot.invariant.served c.in_ok-was_sent.ensures.ok

pub returns-in_err-was_sent-clause-err : goal.returns-in_err-was_sent-clause-err
returns-in_err-was_sent-clause-err g c =
    let p = err_from_is_err_and c.from_residual.result c.from_residual.ensures.1 in
    rw p.1 (serves_breaks (IsAnswered g.F.Floor.answers g.F.Floor.shows) (service_of g.W.Wire.calls c.args.server.now []) (service_of g.W.Wire.calls c.loop-slot.server []) (service_of g.W.Wire.calls c.serve_slot.new.server []) c.loop-slot.invariant.served c.in_err-was_sent.ensures.err)
