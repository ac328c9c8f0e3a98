use Rattle.std.proofs.Common.{◌≡◌, ◌<◌, ℕ, get_or, length}
use Rattle.lf_segments.specs.RowStarts.{IsStartOf, rows_of}
use Rattle.lf_segments.proofs.row_starts.starts_of.Given as goal

-- The rows so far have their starts.
abbrev pub invariant-loop-row : goal.invariant-loop-row
invariant-loop-row l = record {
  many : length l.starts.items ≡ l.row;
  each : (r d : ℕ) → r < l.row → IsStartOf (rows_of l.segments) r (get_or l.starts.items r d);
}
