use Rattle.std.proofs.Common.{◌≡◌, ◌++◌, map, take}
use Rattle.lf_frame.specs.Sweep.{piece_of}
use Rattle.lf_frame.proofs.fence_checks.push_pieces.Given as goal

abbrev pub invariant-loop-rect : goal.invariant-loop-rect
invariant-loop-rect l = l.pieces.items ≡ l.fn.pieces.items ++ map (λ rect. piece_of l.number rect) (take l.rect-index l.rects)
