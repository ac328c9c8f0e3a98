-- Copies of designs, with the cells at their places in a table.
use Rattle.std.proofs.Common.{◌≡◌, Bool, false, List, [], ◌∷◌, map, Option, None, Some, refl, ap}
use Rattle.std.specs.Borrow.{Bor}
use Rattle.lf_floorplan.specs.declared.loaded.LoadedCell.{LoadedCell}
use Rattle.lf_cells.specs.Cells.{Cells}
use Rattle.lf_repair_bounds.proofs.Copying.{AreOneCell}
use Rattle.lf_task_files.specs.Copies.{placed_by_table}

-- A table changes the places of cells; without a table they are unchanged.
pub moved_one : (committed : Bool) (table : Option (Bor Cells)) (c : LoadedCell) → AreOneCell c (placed_by_table committed table c)
moved_one committed None c = record { name = refl; team = refl; mac = refl; component = refl }
moved_one committed (Some table) c = record { name = refl; team = refl; mac = refl; component = refl }

pub moved_none : (cells : List LoadedCell) → map (placed_by_table false None) cells ≡ cells
moved_none [] = refl
moved_none (c ∷ cells) = ap (λ (cs : List LoadedCell). c ∷ cs) (moved_none cells)
