use Rattle.std.proofs.Common.{◌≡◌, ◌++◌, drop}
use Rattle.lf_frame.proofs.convert.push_rects.Given as goal

-- The rectangles so far, followed by the remaining ones, are all of them.
abbrev pub invariant-loop-rect : goal.invariant-loop-rect
invariant-loop-rect l = l.all ++ drop l.rect-index l.rects ≡ l.initial.all ++ l.rects
