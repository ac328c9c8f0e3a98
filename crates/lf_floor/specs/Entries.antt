-- The entry of a cell in a table, with its committed or its working place; no public clause cites it.
use Rattle.std.specs.Prelude.{ℕ, Option}
use Rattle.lf_floorplan.specs.declared.place.Place.{Place}
use Rattle.lf_cells.specs.declared.cell.CellId.{CellId}
use Rattle.lf_cells.specs.Cells.{Cells, cells_of, committed_at, entry_position, working_at}
use Rattle.lf_floor.specs.declared.cell_places.PlaceKind.{PlaceKind}
use Rattle.lf_floor.specs.declared.cell_places.PlaceKind.TheVariants.{Committed, Working}

-- the cell's place of this kind
abbrev pub place_of_kind : PlaceKind → Cells → CellId → Option Place
place_of_kind Committed table id = committed_at (cells_of table id.team) id.own
place_of_kind Working table id = working_at (cells_of table id.team) id.own

-- the position of the cell's entry among all COMPONENTS, and its place of this kind
abbrev pub place_entry : PlaceKind → Cells → CellId → ℕ × Option Place
place_entry kind table id = (entry_position table id, place_of_kind kind table id)

-- the same with its committed place
abbrev pub committed_entry : Cells → CellId → ℕ × Option Place
committed_entry table id = place_entry Committed table id

-- the same with its working place
abbrev pub working_entry : Cells → CellId → ℕ × Option Place
working_entry table id = place_entry Working table id
