use Rattle.std.specs.Prelude.{◌≡◌, []}
use Rattle.lf_hub_clients.specs.Turns.{IsAnswered}
use Rattle.lf_hub_serve.specs.Serving.{Serves}
use Rattle.lf_hub_serve.specs.Servers.{service_of}
use Rattle.lf_hub_serve.proofs.departures.send_replies.Given as goal

abbrev pub invariant-loop-slot : goal.invariant-loop-slot
invariant-loop-slot g l = record {
  served : Serves (IsAnswered g.F.Floor.answers g.F.Floor.shows) (service_of g.W.Wire.calls l.fn.server []) (service_of g.W.Wire.calls l.server []);
  records : l.server.core.hub.records ≡ l.fn.server.core.hub.records;
}
