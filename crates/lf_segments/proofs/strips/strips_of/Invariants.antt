use Rattle.std.proofs.Common.{◌≡◌, map, take}
use Rattle.lf_segments.specs.Strips.{strip_of}
use Rattle.lf_segments.proofs.strips.strips_of.Given as goal

-- The strips of the segments so far.
abbrev pub invariant-loop-segment : goal.invariant-loop-segment
invariant-loop-segment l = l.strips.items ≡ map (strip_of l.frame) (take l.segment-index l.segments)
