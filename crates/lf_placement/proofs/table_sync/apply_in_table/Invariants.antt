use Rattle.std.proofs.Common.{drop}
use Rattle.lf_cells.specs.Cells.{cells_of}
use Rattle.lf_placement.specs.Placements.{OtherCellsStay, moves_applied}
use Rattle.lf_placement.proofs.Moves.{IsMakingAt}
use Rattle.lf_placement.proofs.table_sync.apply_in_table.Given as goal

abbrev pub invariant-loop-at : goal.invariant-loop-at
invariant-loop-at l = record {
  making : IsMakingAt (cells_of l.fn.cells l.team) (moves_applied (drop l.from l.fn.moves) (cells_of l.fn.cells l.team)) (cells_of l.cells l.team) l.fn.moves l.moves l.from l.at;
  others : OtherCellsStay l.team l.fn.cells l.cells;
}
