use Rattle.std.proofs.Common.{◌≡◌, ◌++◌, drop, map}
use Rattle.lf_segments.specs.Boxes.{segment_of}
use Rattle.lf_segments.proofs.cut_row.push_spans.Given as goal

-- The segments so far, followed by those of the remaining spans, are all.
abbrev pub invariant-loop-span : goal.invariant-loop-span
invariant-loop-span l = l.segments.items ++ map (segment_of l.row l.team) (drop l.span-index l.spans) ≡ l.initial.segments.items ++ map
    (segment_of l.row l.team) l.spans
