use Rattle.std.specs.Prelude.{[]}
use Rattle.lf_hub_clients.specs.Turns.{IsAnswered}
use Rattle.lf_hub_serve.specs.Serving.{Serves}
use Rattle.lf_hub_serve.specs.Servers.{service_of}
use Rattle.lf_hub_serve.proofs.arrivals.accept_clients.Given as goal

abbrev pub invariant-loop-count : goal.invariant-loop-count
invariant-loop-count g l = Serves (IsAnswered g.F.Floor.answers g.F.Floor.shows) (service_of g.W.Wire.calls l.fn.server []) (service_of g.W.Wire.calls l.server [])
