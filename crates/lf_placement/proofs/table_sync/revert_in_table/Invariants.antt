use Rattle.std.proofs.Common.{◌≡◌, take}
use Rattle.lf_cells.specs.Cells.{cells_of}
use Rattle.lf_placement.specs.Placements.{OtherCellsStay}
use Rattle.lf_placement.specs.Steps.{moves_reverted}
use Rattle.lf_placement.proofs.table_sync.revert_in_table.Given as goal

-- undoing the remaining moves gives the same cells as undoing all
abbrev pub invariant-loop-at : goal.invariant-loop-at
invariant-loop-at l = record {
  left : moves_reverted (take l.at l.moves) (cells_of l.cells l.team) ≡ moves_reverted l.fn.moves (cells_of l.fn.cells l.team);
  others : OtherCellsStay l.team l.fn.cells l.cells;
}
