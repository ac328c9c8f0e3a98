-- The cells of all teams as contracts see them (LEF/DEF 5.8, DEF COMPONENTS).
use Rattle.std.specs.Prelude.{◌↔◌, ℕ, zero, suc, ◌<◌, List, [], ◌∷◌, Option, position, bytes_eq, option_map, option_and_then}
use Rattle.std.specs.Prelude.{slice_get, slice_index, slice_index_or, map, length, AllPairs, Contains, IsSome}
use Rattle.std.specs.List.{range_with_len}
use Rattle.lf_floorplan.specs.declared.place.Place.{Place}
use Rattle.lf_cells.specs.declared.cell.Cell.{Cell}
use Rattle.lf_cells.specs.declared.cell.CellId.{CellId}
use Rattle.lf_cells.specs.declared.cell.CellPlacement.{CellPlacement}

-- For each team its cells in loading order, and the positions of their entries among all COMPONENTS
-- of the DEF text.
pub record Cells : Type 0 where
  pub cells : List (List Cell)
  pub components : List (List ℕ)

-- The cells of the team with this number; empty if there is no such team.
abbrev pub cells_of : Cells → ℕ → List Cell
cells_of table team = slice_index_or table.cells team []

-- The positions of the entries of the team's cells.
abbrev pub components_of : Cells → ℕ → List ℕ
components_of table team = slice_index_or table.components team []

-- The cell with an id.
abbrev pub cell_at : Cells → CellId → Option Cell
cell_at table id = slice_get (cells_of table id.team) id.own

-- The position of the entry of the cell with an id.
abbrev pub component_at : Cells → CellId → Option ℕ
component_at table id = slice_get (components_of table id.team) id.own

-- The position of the entry of the cell with an id; 0 if there is no such cell.
abbrev pub entry_position : Cells → CellId → ℕ
entry_position table id = slice_index (components_of table id.team) id.own

-- The ids of the cells of all teams, in loading order: the positions of their entries rise. They
-- are exactly the ids that have a cell, and exactly those that have an entry.
pub record AreAllIds (table : Cells) (ids : List CellId) : Type 0 where
  pub rise : AllPairs (λ id later. entry_position table id < entry_position table later) ids
  pub cells : (id : CellId) → Contains ids id ↔ IsSome (cell_at table id)
  pub entries : (id : CellId) → Contains ids id ↔ IsSome (component_at table id)

-- The id of the team's cell at this position.
abbrev pub id_of : ℕ → ℕ → CellId
id_of team own = record { team = team; own = own }

-- The id of the cell at this position among the team's cells; `None` if there is no such cell.
abbrev pub id_in : List Cell → ℕ → ℕ → Option CellId
id_in cells team own = option_map (λ c. id_of team own) (slice_get cells own)

-- The ids of all cells of the team, in loading order.
abbrev pub ids_of : ℕ → List Cell → List CellId
ids_of team cells = map (λ own. id_of team own) (range_with_len 0 (length cells))

-- The position of the cell with this name in the list; `None` if no cell of the list has it, even
-- if another team's cell does.
abbrev pub cell_named : List ℕ → List Cell → Option ℕ
cell_named name cells = position (λ c. bytes_eq c.name name) cells

-- A cell's macro and its working place.
abbrev pub placement_of : Cell → CellPlacement
placement_of c = record { mac = c.mac; working = c.working }

-- The working place of the cell at this position; `None` if it is unplaced, or there is no such
-- cell.
abbrev pub working_at : List Cell → ℕ → Option Place
working_at cells own = option_and_then (λ c. c.working) (slice_get cells own)

-- The committed place of the cell at this position; `None` if it is unplaced, or there is no such
-- cell.
abbrev pub committed_at : List Cell → ℕ → Option Place
committed_at cells own = option_and_then (λ c. c.committed) (slice_get cells own)

-- The cells with the working place of one of them changed; committed places are unchanged.
abbrev pub moved : List Cell → ℕ → Option Place → List Cell
moved [] own place = []
moved (c ∷ cs) zero place = record c { working = place } ∷ cs
moved (c ∷ cs) (suc own) place = c ∷ moved cs own place

-- The cell with its working place committed.
abbrev pub as_committed : Cell → Cell
as_committed c = record c { committed = c.working }
