-- How a table stores its cells.
use Rattle.std.specs.Prelude.{◌≡◌, ◌≢◌, ◌↔◌, ℕ, zero, suc, ◌+◌, ◌<◌, ◌==◌, if◌then◌else◌, List, []}
use Rattle.std.specs.Prelude.{◌∷◌, ◌++◌, Option, Some, map, length, slice_get, slice_set, slice_index, slice_index_or, AllPairs}
use Rattle.std.specs.List.{range_with_len}
use Rattle.lf_floorplan.specs.declared.place.Place.{Place}
use Rattle.lf_floorplan.specs.declared.cells.UnnamedCell.{UnnamedCell}
use Rattle.lf_cells.specs.declared.cell.Cell.{Cell}
use Rattle.lf_cells.specs.declared.cell.CellId.{CellId}
use Rattle.lf_cells.specs.declared.records.CellRecord.{CellRecord}
use Rattle.lf_cells.specs.declared.table_parts.TableParts.{TableParts}
use Rattle.lf_cells.specs.Cells.{Cells, id_of}

-- ---- one cell

-- A cell as it is loaded, with the position of its name.
abbrev pub initial_record : ℕ → UnnamedCell → CellRecord
initial_record label c = record {
  label = label;
  mac = c.mac;
  component = c.component;
  working = c.place;
  committed = c.place;
}

-- The cell, with its name from the table of names.
abbrev pub cell_with_name : List (List ℕ) → CellRecord → Cell
cell_with_name names s = record {
  name = slice_index_or names s.label [];
  mac = s.mac;
  working = s.working;
  committed = s.committed;
}

-- The cell with its working place committed.
abbrev pub committed_record : CellRecord → CellRecord
committed_record s = record s { committed = s.working }

-- ---- the cells of one team

-- The cells with the working place of one of them changed.
abbrev pub moved_records : List CellRecord → ℕ → Option Place → List CellRecord
moved_records [] own place = []
moved_records (s ∷ ss) zero place = record s { working = place } ∷ ss
moved_records (s ∷ ss) (suc own) place = s ∷ moved_records ss own place

-- The positions of the names.
abbrev pub labels : List CellRecord → List ℕ
labels slots = map (λ s. s.label) slots

-- The team's own cells in the list. `label` is the position of the first cell's name.
abbrev pub own_records : ℕ → ℕ → List UnnamedCell → List CellRecord
own_records number label [] = []
own_records number label (c ∷ cs) = if c.team == number then initial_record label c ∷ own_records number (label + 1) cs
    else own_records number (label + 1) cs

-- ---- the cells of all teams

-- The cells of each team.
abbrev pub cells_in : List (List ℕ) → List (List CellRecord) → List (List Cell)
cells_in names teams = map (λ slots. map (cell_with_name names) slots) teams

-- The positions of entries of each team.
abbrev pub components_in : List (List CellRecord) → List (List ℕ)
components_in teams = map (λ slots. map (λ s. s.component) slots) teams

-- The positions of names of each team.
abbrev pub labels_in : List (List CellRecord) → List (List ℕ)
labels_in teams = map labels teams

-- The value that contracts see of the lists.
abbrev pub table_of : TableParts → Cells
table_of p = record { cells = cells_in p.names p.teams.items; components = components_in p.teams.items }

-- The cell with an id, without its name.
abbrev pub record_at : List (List CellRecord) → CellId → Option CellRecord
record_at teams id = slice_get (slice_index_or teams id.team []) id.own

-- The position of the name of the cell with an id.
abbrev pub label_at : List (List ℕ) → CellId → Option ℕ
label_at labels id = slice_get (slice_index_or labels id.team []) id.own

-- The position of the entry of the cell with an id; 0 if there is no such cell.
abbrev pub position_in : List (List ℕ) → CellId → ℕ
position_in components id = slice_index (slice_index_or components id.team []) id.own

-- Each name has its owner, the cell with the name, and no other cell has the name.
pub record IsIndex (owners : List CellId) (labels : List (List ℕ)) : Type 0 where
  pub owned : (id : CellId) (label : ℕ) → (slice_get owners label ≡ Some id) ↔ (label_at labels id ≡ Some label)

-- Each team's ids are those of its cells, in loading order.
pub record AreListed (ids : List (List CellId)) (labels : List (List ℕ)) : Type 0 where
  pub listed : (team : ℕ) → slice_index_or ids team []
      ≡ map (λ own. id_of team own) (range_with_len 0 (length (slice_index_or labels team [])))

-- The names differ, each has one owner, the owners are in the order of their entries, and each team
-- has the ids of its cells.
pub record AreIndexed (p : TableParts) : Type 0 where
  pub differ : AllPairs (λ name later. name ≢ later) p.names
  pub many : length p.names ≡ length p.owners.items
  pub index : IsIndex p.owners.items (labels_in p.teams.items)
  pub rise : AllPairs (λ id later. position_in (components_in p.teams.items) id
      < position_in (components_in p.teams.items) later) p.owners.items
  pub ids : AreListed p.ids.items (labels_in p.teams.items)

-- ---- filling a table

-- The cell is the last one of its team; the names are unchanged.
pub record AddsCell (c : UnnamedCell) (old new : TableParts) : Type 0 where
  pub names : new.names ≡ old.names
  pub owners :
      new.owners.items ≡ old.owners.items ++ id_of c.team (length (slice_index_or old.teams.items c.team [])) ∷ []
  pub teams : new.teams.items ≡ slice_set old.teams.items c.team
      (slice_index_or old.teams.items c.team [] ++ initial_record (length old.owners.items) c ∷ [])
  pub ids : new.ids.items ≡ slice_set old.ids.items c.team
      (slice_index_or old.ids.items c.team [] ++ id_of c.team (length (slice_index_or old.teams.items c.team [])) ∷ [])

-- The lists of a table for these names and cells and for `count` teams.
pub record AreAdded (names : List (List ℕ)) (cells : List UnnamedCell) (count : ℕ) (p : TableParts) : Type 0 where
  pub names_are : p.names ≡ names
  pub many : length p.owners.items ≡ length cells
  pub index : IsIndex p.owners.items (labels_in p.teams.items)
  pub ids : AreListed p.ids.items (labels_in p.teams.items)
  pub ids_count : length p.ids.items ≡ count
  pub count_is : length p.teams.items ≡ count
  pub each : (number : ℕ) → slice_index_or p.teams.items number [] ≡ own_records number 0 cells
