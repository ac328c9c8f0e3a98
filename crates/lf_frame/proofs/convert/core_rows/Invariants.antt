use Rattle.std.proofs.Common.{◌≡◌, ◌++◌, drop, map}
use Rattle.std.specs.Prelude.{filter}
use Rattle.lf_frame.specs.Loading.{is_core_row, frame_row}
use Rattle.lf_frame.proofs.convert.core_rows.Given as goal

-- The core rows so far, followed by those among the remaining rows, are all of them.
abbrev pub invariant-loop-row : goal.invariant-loop-row
invariant-loop-row l = l.core_ones ++ map frame_row (filter (is_core_row l.core) (drop l.row-index l.rows)) ≡ map frame_row (filter (is_core_row l.core) l.rows)
