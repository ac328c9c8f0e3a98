use Rattle.std.specs.Prelude.{◌≡◌}
use Rattle.lf_server.specs.Connections.{AreServed, KeepsDesign}
use Rattle.lf_server.proofs.tcp.serve_connections.Given as goal

abbrev pub invariant-loop-served : goal.invariant-loop-served
invariant-loop-served g l = record {
  served : AreServed l.fn.limits.lines l.fn.limits.reads l.served (g.A.Acceptor.accepted l.fn.acceptor) (g.A.Acceptor.accepted l.acceptor) l.fn.floor l.floor;
  offers : g.A.Acceptor.offers l.acceptor ≡ g.A.Acceptor.offers l.fn.acceptor;
  failed : g.A.Acceptor.has_failed l.acceptor ≡ g.A.Acceptor.has_failed l.fn.acceptor;
  stays : KeepsDesign l.fn.floor l.floor;
}
