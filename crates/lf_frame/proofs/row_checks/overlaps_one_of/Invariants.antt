use Rattle.std.proofs.Common.{◌≡◌, ℕ, ◌<◌, true, get_or}
use Rattle.lf_units.specs.Area.{SharesPoint}
use Rattle.lf_def.specs.declared.rows.RowStatement.{RowStatement}
use Rattle.lf_floorplan.specs.Rows.{row_area}
use Rattle.lf_frame.specs.Loading.{is_core_row, frame_row}
use Rattle.lf_frame.proofs.row_checks.overlaps_one_of.Given as goal

abbrev pub invariant-loop-other : goal.invariant-loop-other
invariant-loop-other l =
    (k : ℕ) (d : RowStatement) → k < l.other-index →
    (is_core_row l.core (get_or l.earlier k d) ≡ true) × SharesPoint (row_area l.pitch.size (frame_row (get_or l.earlier k d)))
    (row_area l.pitch.size (frame_row l.row)) → ⊥
