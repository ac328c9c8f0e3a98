use Rattle.std.proofs.Common.{◌≡◌, ◌+◌, ◌≤◌, List, ℕ, Some, []}
use Rattle.std.specs.Io.KnownBytes.{Consumes}
use Rattle.lf_rules.specs.Legalizer.{Legalizer}
use Rattle.lf_server.specs.Connections.{KeepsDesign}
use Rattle.lf_server.specs.Devices.{writer}
use Rattle.lf_server.specs.Progress.{ContinuesServing}
use Rattle.lf_server.proofs.serve_loop.serve_lines.Given as goal

abbrev pub invariant-loop-reads_left : goal.invariant-loop-reads_left
invariant-loop-reads_left g l = record {
  counted : g.S.Source.reads l.source + l.reads_left ≡ g.S.Source.reads l.fn.source + l.fn.left.reads;
  counts : l.left.lines ≤ l.fn.left.lines;
  stays : KeepsDesign l.fn.floor l.floor;
  sink : g.W.Sink.has_failed l.sink ≡ g.W.Sink.has_failed l.fn.sink;
  source : g.S.Source.has_failed l.source ≡ g.S.Source.has_failed l.fn.source;
  sink_held : g.W.Sink.holds l.sink ≡ g.W.Sink.holds l.fn.sink;
  source_held : g.S.Source.holds l.source ≡ g.S.Source.holds l.fn.source;
  goes : (z : Legalizer) → (read : List ℕ) × Consumes (g.S.Source.remaining l.fn.source) (g.S.Source.remaining l.source) read
      × ContinuesServing z (writer (g.W.Sink.contents l.fn.sink) (g.W.Sink.is_flushed l.fn.sink) (g.W.Sink.has_failed l.fn.sink))
      (writer (g.W.Sink.contents l.sink) (g.W.Sink.is_flushed l.sink) (g.W.Sink.has_failed l.sink)) l.fn.left.lines l.left.lines l.fn.floor l.floor (Some []) l.framer.pending read [];
}

abbrev pub decreases-loop-reads_left : goal.decreases-loop-reads_left
decreases-loop-reads_left g l = l.reads_left
