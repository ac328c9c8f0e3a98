use Rattle.std.proofs.Common.{ℕ, ◌<◌, get_or}
use Rattle.lf_units.specs.declared.geometry.Rect.{Rect}
use Rattle.lf_units.specs.Area.{SharesPoint}
use Rattle.lf_rules.proofs.overlap.is_clear_of.Given as goal

abbrev pub invariant-loop-other : goal.invariant-loop-other
invariant-loop-other l = (k : ℕ) (d : Rect) → k < l.other-index → SharesPoint l.rect (get_or l.rects k d) → ⊥
