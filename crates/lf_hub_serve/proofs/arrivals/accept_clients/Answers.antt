use Rattle.std.proofs.Common.{[]}
use Rattle.std.proofs.lemmas.Result.{err_from_is_err_and}
use Rattle.lf_hub_clients.specs.Turns.{IsAnswered}
use Rattle.lf_hub_serve.specs.Servers.{service_of}
use Rattle.lf_hub_serve.proofs.Services.{serves_then, serves_breaks}
use Rattle.lf_hub_serve.proofs.arrivals.accept_clients.Goals as goal

pub loop-count-preserved : goal.loop-count-preserved
loop-count-preserved g c =
    serves_then (IsAnswered g.F.Floor.answers g.F.Floor.shows) (service_of g.W.Wire.calls c.args.server.now []) (service_of g.W.Wire.calls c.loop-count.server []) (service_of g.W.Wire.calls c.accept_client.new.server []) c.loop-count.invariant c.in_ok-accept_client.ensures.ok

pub returns-then-not-branch-clause-ok : goal.returns-then-not-branch-clause-ok
returns-then-not-branch-clause-ok g c =
    serves_then (IsAnswered g.F.Floor.answers g.F.Floor.shows) (service_of g.W.Wire.calls c.args.server.now []) (service_of g.W.Wire.calls c.loop-count.server []) (service_of g.W.Wire.calls c.accept_client.new.server []) c.loop-count.invariant c.in_ok-accept_client.ensures.ok

pub returns-in_err-accept_client-clause-err : goal.returns-in_err-accept_client-clause-err
returns-in_err-accept_client-clause-err g c =
    let p = err_from_is_err_and c.from_residual.result c.from_residual.ensures.1 in
    rw p.1 (serves_breaks (IsAnswered g.F.Floor.answers g.F.Floor.shows) (service_of g.W.Wire.calls c.args.server.now []) (service_of g.W.Wire.calls c.loop-count.server []) (service_of g.W.Wire.calls c.accept_client.new.server []) c.loop-count.invariant c.in_err-accept_client.ensures.err)
