use Rattle.std.proofs.Common.{◌≡◌, ◌++◌, drop, map}
use Rattle.lf_segments.specs.Boxes.{placed_with_number}
use Rattle.lf_segments.proofs.obstacle_boxes.push_placed.Given as goal

-- The boxes so far, followed by those of the remaining rectangles, are all.
abbrev pub invariant-loop-rect : goal.invariant-loop-rect
invariant-loop-rect l = l.boxes.items ++ map (placed_with_number l.own) (drop l.rect-index l.rects) ≡ l.initial.boxes.items ++ map (placed_with_number l.own) l.rects
