-- The invariant of a packed span.
use Rattle.std.specs.Prelude.{◌≡◌, ℕ, ◌≤◌, List}
use Rattle.lf_repair_planner.specs.declared.packed_cell.PackedCell.{PackedCell}
use Rattle.lf_repair_planner.specs.Packing.{IsPacked, total_width}

-- the cells are packed in the room, and `taken` is the number of sites that they take
pub record IsPackedSpan (room taken : ℕ) (cells : List PackedCell) : Type 0 where
  pub packed : IsPacked room cells
  pub counted : taken ≡ total_width cells
  pub short : taken ≤ room
