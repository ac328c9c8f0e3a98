use Rattle.std.proofs.Common.{take}
use Rattle.lf_segments.specs.Soft.{AreSoftOver, AreStarts, lists_from}
use Rattle.lf_segments.proofs.soft_spans.SoftSpans.build.Given as goal

-- The soft spans of the strips so far.
abbrev pub invariant-loop-strip : goal.invariant-loop-strip
invariant-loop-strip l = record {
  starts : AreStarts l.spans.items l.starts.items;
  soft : AreSoftOver l.frame (take l.strip-index l.strips) (lists_from l.spans.items l.starts.items);
}
