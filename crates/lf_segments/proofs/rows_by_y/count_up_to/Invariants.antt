use Rattle.std.proofs.Common.{◌≤ℤ◌, ◌<◌, ℕ, get_or}
use Rattle.lf_segments.specs.declared.rows_by_y.RowEntry.{RowEntry}
use Rattle.lf_segments.proofs.rows_by_y.count_up_to.Given as goal

-- The entries so far do not lie above y.
abbrev pub invariant-loop-n : goal.invariant-loop-n
invariant-loop-n l = (k : ℕ) → (d : RowEntry) → k < l.n → (get_or l.entries k d).y ≤ℤ l.y
