use Rattle.std.proofs.Common.{◌≡◌, length, ◌-◌, ◌≤◌, drop}
use Rattle.lf_rules.specs.Legalizer.{Legalizer}
use Rattle.lf_server.specs.Connections.{KeepsDesign}
use Rattle.lf_server.specs.Devices.{writer}
use Rattle.lf_server.specs.Progress.{ContinuesServing}
use Rattle.lf_server.proofs.serve_loop.answer_lines_in.Given as goal

abbrev pub invariant-loop-at : goal.invariant-loop-at
invariant-loop-at g l = record {
  within : l.at ≤ length l.piece;
  counts : l.left ≤ l.fn.left;
  stays : KeepsDesign l.fn.floor l.floor;
  sink : g.W.Sink.has_failed l.sink ≡ g.W.Sink.has_failed l.fn.sink;
  held : g.W.Sink.holds l.sink ≡ g.W.Sink.holds l.fn.sink;
  goes : (z : Legalizer) → ContinuesServing z (writer (g.W.Sink.contents l.fn.sink) (g.W.Sink.is_flushed l.fn.sink) (g.W.Sink.has_failed l.fn.sink))
      (writer (g.W.Sink.contents l.sink) (g.W.Sink.is_flushed l.sink) (g.W.Sink.has_failed l.sink)) l.fn.left l.left l.fn.floor l.floor l.fn.framer.pending l.framer.pending l.piece (drop l.at l.piece);
}

abbrev pub decreases-loop-at : goal.decreases-loop-at
decreases-loop-at g l = length l.piece - l.at
