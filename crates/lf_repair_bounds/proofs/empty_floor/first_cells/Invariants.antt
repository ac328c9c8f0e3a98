use Rattle.lf_repair_bounds.specs.EmptyFloors.{AreFirstCells}
use Rattle.lf_repair_bounds.proofs.empty_floor.first_cells.Given as goal

-- the kept cells are from the cells visited
abbrev pub invariant-loop-at : goal.invariant-loop-at
invariant-loop-at l = AreFirstCells l.loaded.frame l.loaded.cells l.at l.kept
