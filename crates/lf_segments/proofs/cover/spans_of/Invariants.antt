use Rattle.std.proofs.Common.{◌≡◌, ◌++◌, drop, map}
use Rattle.lf_segments.specs.Boxes.{x_extent}
use Rattle.lf_segments.proofs.cover.spans_of.Given as goal

-- The x ranges so far, followed by those of the remaining boxes, are all.
abbrev pub invariant-loop-placed : goal.invariant-loop-placed
invariant-loop-placed l = l.spans.items ++ map (λ p. x_extent p.rect) (drop l.placed-index l.boxes) ≡ map (λ p. x_extent p.rect) l.boxes
