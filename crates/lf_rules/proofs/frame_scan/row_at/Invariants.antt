use Rattle.std.proofs.Common.{ℕ, ◌<◌, get_or}
use Rattle.lf_floorplan.specs.declared.parts.Row.{Row}
use Rattle.lf_floorplan.specs.RowSupport.{ExtendsOver}
use Rattle.lf_rules.proofs.frame_scan.row_at.Given as goal

-- No row so far lies there.
abbrev pub invariant-loop-number : goal.invariant-loop-number
invariant-loop-number l = (k : ℕ) (d : Row) → k < l.number → ExtendsOver l.frame l.point.y l.point.x (get_or l.frame.rows k d) → ⊥
