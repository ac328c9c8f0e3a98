use Rattle.std.proofs.Common.{◌≡◌, ◌++◌, drop, map}
use Rattle.lf_task_files.specs.Copies.{cells_of_parts, placed_by_table}
use Rattle.lf_task_files.proofs.copies.copy_cells.Given as goal

-- The copies so far, followed by those of the remaining cells, are all copies.
abbrev pub invariant-loop-at : goal.invariant-loop-at
invariant-loop-at l = l.copies ++ map (placed_by_table l.committed l.table) (drop l.at (cells_of_parts l.parts)) ≡ map (placed_by_table l.committed l.table) (cells_of_parts l.parts)
