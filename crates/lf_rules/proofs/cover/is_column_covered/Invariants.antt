use Rattle.std.proofs.Common.{ℕ, ◌<◌, get_or}
use Rattle.lf_units.specs.declared.geometry.Rect.{Rect}
use Rattle.lf_units.specs.Area.{Covers, CoveredBy}
use Rattle.lf_rules.proofs.cover.is_column_covered.Given as goal

abbrev pub invariant-loop-edge : goal.invariant-loop-edge
invariant-loop-edge l = (k : ℕ) (d : Rect) → k < l.edge-index → Covers l.rect l.foot.x (get_or l.rects k d).y2 → CoveredBy l.rects l.foot.x (get_or l.rects k d).y2
