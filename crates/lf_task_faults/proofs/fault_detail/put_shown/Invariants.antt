use Rattle.std.proofs.Common.{◌≡◌, drop}
use Rattle.lf_task_faults.proofs.Shown.{Completes}
use Rattle.lf_task_faults.proofs.fault_detail.put_shown.Given as goal

abbrev pub invariant-loop-byte : goal.invariant-loop-byte
invariant-loop-byte g l = record {
  completes : Completes (g.W.Sink.contents l.fn.sink) (g.W.Sink.contents l.sink) (drop l.byte-index l.bytes) l.bytes;
  held : g.W.Sink.holds l.sink ≡ g.W.Sink.holds l.fn.sink;
}
