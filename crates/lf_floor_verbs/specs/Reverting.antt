-- The moves of cells back to their committed places; no public clause cites it.
use Rattle.std.specs.Prelude.{◌≡◌, ℕ, List}
use Rattle.lf_cells.specs.declared.cell.Cell.{Cell}
use Rattle.lf_cells.specs.Cells.{committed_at, moved, working_at}
use Rattle.lf_undo.specs.declared.moves.Move.{Move}
use Rattle.lf_placement.specs.Placements.{moves_applied}

-- the new moves, appended to the old ones, move the cell at that position to its committed place,
-- wherever the old moves have moved the other cells
abbrev pub IsRevertMove : List Cell → ℕ → List Move → List Move → Type 0
IsRevertMove cells own old new =
    (now : List Cell) → moves_applied old cells ≡ now → working_at now own ≡ working_at cells own
    → committed_at now own ≡ committed_at cells own
    → moves_applied new cells ≡ moved now own (committed_at now own)
