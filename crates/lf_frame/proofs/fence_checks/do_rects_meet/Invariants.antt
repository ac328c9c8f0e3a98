use Rattle.std.proofs.Common.{ℕ, ◌<◌, get_or}
use Rattle.std.specs.Prelude.{Any}
use Rattle.lf_units.specs.declared.geometry.Rect.{Rect}
use Rattle.lf_units.specs.Area.{SharesPoint}
use Rattle.lf_frame.proofs.fence_checks.do_rects_meet.Given as goal

abbrev pub invariant-loop-rect : goal.invariant-loop-rect
invariant-loop-rect l = (k : ℕ) (d : Rect) → k < l.rect-index → Any (λ b. SharesPoint (get_or l.first k d) b) l.second → ⊥
