use Rattle.std.proofs.Common.{◌≡◌, ◌++◌, map, take}
use Rattle.lf_repair_bounds.specs.FreeRuns.{blocked_box}
use Rattle.lf_repair_bounds.proofs.blocked_boxes.push_rects.Given as goal

-- the boxes of the rectangles so far
abbrev pub invariant-loop-rect : goal.invariant-loop-rect
invariant-loop-rect l = l.boxes.items ≡ l.initial.boxes.items ++ map blocked_box (take l.rect-index l.rects)
