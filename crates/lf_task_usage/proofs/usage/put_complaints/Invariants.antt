use Rattle.std.proofs.Common.{◌≡◌}
use Rattle.lf_task_usage.specs.Usage.{AppendsLines}
use Rattle.lf_task_usage.proofs.usage.put_complaints.Given as goal

abbrev pub invariant-loop-line : goal.invariant-loop-line
invariant-loop-line g l = record {
  told : AppendsLines (g.W.Sink.contents l.fn.sink) (g.W.Sink.contents l.sink);
  held : g.W.Sink.holds l.sink ≡ g.W.Sink.holds l.fn.sink;
}
