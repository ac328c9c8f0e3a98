use Rattle.std.proofs.Common.{[]}
use Rattle.std.proofs.lemmas.Result.{err_from_is_err_and}
use Rattle.lf_hub_clients.specs.Turns.{IsAnswered}
use Rattle.lf_hub_serve.specs.Servers.{service_of}
use Rattle.lf_hub_serve.proofs.Services.{serves_then, serves_breaks}
use Rattle.lf_hub_serve.proofs.departures.serve_slot.Goals as goal

pub returns-clause-ok : goal.returns-clause-ok
returns-clause-ok g c =
    serves_then (IsAnswered g.F.Floor.answers g.F.Floor.shows) (service_of g.W.Wire.calls c.args.server.now []) (service_of g.W.Wire.calls c.send_client.new.server [])
    (service_of g.W.Wire.calls c.end_client.new.server []) c.in_ok-was_sent.ensures.ok c.in_ok-end_client.ensures.ok

pub returns-in_err-end_client-clause-err : goal.returns-in_err-end_client-clause-err
returns-in_err-end_client-clause-err g c =
    let p = err_from_is_err_and c.from_residual-in_err-end_client.result c.from_residual-in_err-end_client.ensures.1 in
    rw p.1 (serves_breaks (IsAnswered g.F.Floor.answers g.F.Floor.shows) (service_of g.W.Wire.calls c.args.server.now []) (service_of g.W.Wire.calls c.send_client.new.server [])
    (service_of g.W.Wire.calls c.end_client.new.server []) c.in_ok-was_sent.ensures.ok c.in_err-end_client.ensures.err)
