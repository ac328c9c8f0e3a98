use Rattle.std.proofs.Common.{◌≡◌, ◌++◌, drop}
use Rattle.lf_repair_bounds.proofs.frame_copy.copy_rows.Given as goal

-- the copies so far, followed by the remaining rows, are all of them
abbrev pub invariant-loop-row : goal.invariant-loop-row
invariant-loop-row l = l.copies ++ drop l.row-index l.rows ≡ l.rows
