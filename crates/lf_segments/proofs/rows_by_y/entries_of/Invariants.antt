use Rattle.std.proofs.Common.{◌≡◌, ◌++◌, drop}
use Rattle.lf_segments.specs.RowsByY.{entries_from}
use Rattle.lf_segments.proofs.rows_by_y.entries_of.Given as goal

-- The entries so far, followed by those of the remaining rows, are all.
abbrev pub invariant-loop-number : goal.invariant-loop-number
invariant-loop-number l = l.entries.items ++ entries_from l.number (drop l.number l.rows) ≡ entries_from 0 l.rows
