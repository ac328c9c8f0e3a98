-- The facts that a query about one cell returns.
use Rattle.std.proofs.Common.{◌≡◌, ℕ, ◌<◌, List, [], length, map, get_or, Option, Some, None, refl, ap, sym, ◌∙◌, arith}
use Rattle.std.specs.Prelude.{slice_get, option_map, option_and_then}
use Rattle.std.proofs.lemmas.Option.{slice_get-map, slice_get_within, slice_get-get_or}
use Rattle.lf_cells.specs.declared.cell.Cell.{Cell}
use Rattle.lf_cells.specs.declared.cell.CellId.{CellId}
use Rattle.lf_cells.specs.declared.records.CellRecord.{CellRecord}
use Rattle.lf_cells.specs.declared.table_parts.TableParts.{TableParts}
use Rattle.lf_cells.specs.declared.cell.CellPlacement.{CellPlacement}
use Rattle.lf_cells.specs.Cells.{Cells, cell_at, component_at, placement_of, working_at, committed_at, cells_of}
use Rattle.lf_cells.specs.Records.{cell_with_name, labels, labels_in, record_at, label_at, AreIndexed, table_of}
use Rattle.lf_cells.proofs.Lists.{map_at}

-- The cell with an id is that of its record.
pub cell_is : (p : TableParts) (table : Cells) (id : CellId) → table_of p ≡ table → cell_at table id ≡ option_map (cell_with_name p.names) (record_at p.teams.items id)
cell_is p table id view =
    ap (λ (t : Cells). cell_at t id) (sym view)
    ∙ ap (λ (cells : List Cell). slice_get cells id.own) (map_at (λ (slots : List CellRecord). map (cell_with_name p.names) slots) p.teams.items id.team [])
    ∙ slice_get-map (cell_with_name p.names) (get_or p.teams.items id.team []) id.own

pub component_is : (p : TableParts) (table : Cells) (id : CellId) → table_of p ≡ table
    → component_at table id ≡ option_map (λ s. s.component) (record_at p.teams.items id)
component_is p table id view =
    ap (λ (t : Cells). component_at t id) (sym view)
    ∙ ap (λ (cs : List ℕ). slice_get cs id.own) (map_at (λ (slots : List CellRecord). map (λ (s : CellRecord). s.component) slots) p.teams.items id.team [])
    ∙ slice_get-map (λ (s : CellRecord). s.component) (get_or p.teams.items id.team []) id.own

-- The cell owns its name.
pub owner_is : (p : TableParts) (id : CellId) (s : CellRecord) → AreIndexed p → record_at p.teams.items id ≡ Some s → slice_get p.owners.items s.label ≡ Some id
owner_is p id s indexed there =
    let label : label_at (labels_in p.teams.items) id ≡ Some s.label =
    ap (λ (l : List ℕ). slice_get l id.own) (map_at labels p.teams.items id.team [])
    ∙ slice_get-map (λ (x : CellRecord). x.label) (get_or p.teams.items id.team []) id.own
    ∙ ap (option_map (λ (x : CellRecord). x.label)) there in
    (indexed.index.owned id s.label).1 label

-- The cell's name is in the table of names.
pub name_there : (p : TableParts) (id : CellId) (s : CellRecord) → AreIndexed p → record_at p.teams.items id ≡ Some s
    → slice_get p.names s.label ≡ Some (get_or p.names s.label [])
name_there p id s indexed there =
    let within : s.label < length p.owners.items = slice_get_within p.owners.items s.label id (owner_is p id s indexed there) in
    slice_get-get_or p.names s.label [] (omega (arith, within, indexed.many))

pub working_is : (p : TableParts) (table : Cells) (id : CellId) (s : Option CellRecord) → table_of p ≡ table → s ≡ record_at p.teams.items id
    → working_at (cells_of table id.team) id.own ≡ option_and_then (λ (x : CellRecord). x.working) s
working_is p table id s view is =
    ap (λ (c : Option Cell). option_and_then (λ (x : Cell). x.working) c) (cell_is p table id view ∙ ap (option_map (cell_with_name p.names)) (sym is)) ∙ by s where
      by : (o : Option CellRecord) → option_and_then (λ (x : Cell). x.working) (option_map (cell_with_name p.names) o) ≡ option_and_then (λ (x : CellRecord). x.working) o
      by None = refl
      by (Some x) = refl

pub committed_is : (p : TableParts) (table : Cells) (id : CellId) (s : Option CellRecord) → table_of p ≡ table → s ≡ record_at p.teams.items id
    → committed_at (cells_of table id.team) id.own ≡ option_and_then (λ (x : CellRecord). x.committed) s
committed_is p table id s view is =
    ap (λ (c : Option Cell). option_and_then (λ (x : Cell). x.committed) c) (cell_is p table id view ∙ ap (option_map (cell_with_name p.names)) (sym is))
    ∙ by s where
      by : (o : Option CellRecord) → option_and_then (λ (x : Cell). x.committed) (option_map (cell_with_name p.names) o) ≡ option_and_then (λ (x : CellRecord). x.committed) o
      by None = refl
      by (Some x) = refl

abbrev record_placement : CellRecord → CellPlacement
record_placement s = record { mac = s.mac; working = s.working }

pub cell_placement_is : (p : TableParts) (table : Cells) (id : CellId) (s : Option CellRecord) → table_of p ≡ table → s ≡ record_at p.teams.items id
    → option_map placement_of (slice_get (cells_of table id.team) id.own) ≡ option_map record_placement s
cell_placement_is p table id s view is =
    ap (λ (c : Option Cell). option_map placement_of c) (cell_is p table id view ∙ ap (option_map (cell_with_name p.names)) (sym is)) ∙ by s where
      by : (o : Option CellRecord) → option_map placement_of (option_map (cell_with_name p.names) o) ≡ option_map record_placement o
      by None = refl
      by (Some x) = refl
