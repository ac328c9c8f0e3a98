use Rattle.std.proofs.Common.{take}
use Rattle.lf_segments.specs.Boxes.{AreSpansAt}
use Rattle.lf_segments.proofs.cover.spans_at.Given as goal

-- The spans hold what the boxes read so far cover.
abbrev pub invariant-loop-placed : goal.invariant-loop-placed
invariant-loop-placed l = AreSpansAt (take l.placed-index l.boxes) l.y l.spans.items
