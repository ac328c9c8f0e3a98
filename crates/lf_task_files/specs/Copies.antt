-- Copies of designs and of their cells; no public clause cites it.
use Rattle.std.specs.Prelude.{◌≡◌, Bool, List, Option, Some, None}
use Rattle.std.specs.Borrow.{Bor}
use Rattle.lf_floorplan.specs.declared.cells.CellParts.{CellParts}
use Rattle.lf_floorplan.specs.declared.frame.Frame.{Frame}
use Rattle.lf_floorplan.specs.declared.loaded.LoadedCell.{LoadedCell}
use Rattle.lf_floorplan.specs.declared.loaded.Loaded.{Loaded}
use Rattle.lf_floorplan.specs.LoadedCells.{with_names}
use Rattle.lf_cells.specs.Cells.{Cells, cells_of}
use Rattle.lf_repair_bounds.specs.Copies.{AreCopies}
use Rattle.lf_task_files.specs.PlacedDesigns.{place_named}

-- The cells, each with its name.
abbrev pub cells_of_parts : CellParts → List LoadedCell
cells_of_parts parts = with_names parts.names parts.cells.items

-- A design with a copy of this frame and with these cells.
pub record IsCopyWithCells (f : Frame) (all : List LoadedCell) (twin : Loaded) : Type 0 where
  pub frame : AreCopies f twin.frame
  pub cells : twin.cells ≡ all

-- The cell with its place in the table, if there is a table: the committed one if `committed`, else
-- the working one.
abbrev pub placed_by_table : Bool → Option (Bor Cells) → LoadedCell → LoadedCell
placed_by_table committed None c = c
placed_by_table committed (Some table) c =
    record c { place = place_named committed c.name (cells_of table.now c.team) }
