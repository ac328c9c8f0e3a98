-- A design with its cells at their working or committed places on a floor.
use Rattle.std.specs.Prelude.{◌≡◌, ℕ, Bool, true, false, List, Option, map, option_and_then, slice_get}
use Rattle.lf_floorplan.specs.declared.loaded.LoadedCell.{LoadedCell}
use Rattle.lf_floorplan.specs.declared.loaded.Loaded.{Loaded}
use Rattle.lf_floorplan.specs.declared.place.Place.{Place}
use Rattle.lf_cells.specs.declared.cell.Cell.{Cell}
use Rattle.lf_cells.specs.Cells.{cell_named, committed_at, working_at}
use Rattle.lf_floor_model.specs.States.{FloorState}

-- The place of the cell at this position: its committed place if `committed`, else its working
-- place. `None` if it is unplaced, or there is no such cell.
abbrev pub shown_at : Bool → List Cell → ℕ → Option Place
shown_at true cells own = committed_at cells own
shown_at false cells own = working_at cells own

-- This place of the cell of this name. `None` if it is unplaced, or no cell has the name.
abbrev pub place_named : Bool → List ℕ → List Cell → Option Place
place_named committed name cells = option_and_then (shown_at committed cells) (cell_named name cells)

-- This place of the cell of the same name of its team on the floor.
abbrev pub place_on_floor : Bool → FloorState → LoadedCell → Option Place
place_on_floor committed floor c =
    option_and_then (λ s. place_named committed c.name s.cells) (slice_get floor.teams c.team)

-- The cell at this place on the floor.
abbrev pub placed_on_floor : Bool → FloorState → LoadedCell → LoadedCell
placed_on_floor committed floor c = record c { place = place_on_floor committed floor c }

-- The design is the same, except that each cell has its place on the floor: the committed one if
-- `committed`, else the working one.
pub record IsPlacedOnFloor (committed : Bool) (floor : FloorState) (design seen : Loaded) : Type 0 where
  pub frame : seen.frame ≡ design.frame
  pub cells : seen.cells ≡ map (placed_on_floor committed floor) design.cells
