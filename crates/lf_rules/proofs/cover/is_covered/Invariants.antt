use Rattle.std.proofs.Common.{ℕ, ℤ, ◌<◌, get_or}
use Rattle.lf_units.specs.declared.geometry.Rect.{Rect}
use Rattle.lf_units.specs.Area.{Covers, CoveredBy}
use Rattle.lf_rules.proofs.cover.is_covered.Given as goal

abbrev pub invariant-loop-edge : goal.invariant-loop-edge
invariant-loop-edge l = (k : ℕ) (d : Rect) → k < l.edge-index → (y : ℤ) → Covers l.rect (get_or l.rects k d).x2 y → CoveredBy l.rects (get_or l.rects k d).x2 y
