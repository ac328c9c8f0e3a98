-- The committed places of all movable components (LEF/DEF 5.8, DEF COMPONENTS).
use Rattle.std.specs.Prelude.{◌≡◌, ℕ, ◌<◌, List, [], All, AllPairs, Contains, map, Option, Some, option_and_then, option_map, slice_get, slice_index_or}
use Rattle.lf_floorplan.specs.declared.loaded.Loaded.{Loaded}
use Rattle.lf_floorplan.specs.declared.place.Place.{Place}
use Rattle.lf_cells.specs.declared.cell.Cell.{Cell}
use Rattle.lf_cells.specs.Initial.{initial_components}
use Rattle.lf_floor_model.specs.States.{FloorState}
use Rattle.lf_floor_model.specs.Designs.{initial_floor}

-- the cell at that position in the team of that number; None if there is no such cell
abbrev pub cell_in : FloorState → ℕ → ℕ → Option Cell
cell_in floor number own = option_and_then (λ s. slice_get s.cells own) (slice_get floor.teams number)

-- the position of that cell's entry among all COMPONENTS
abbrev pub component_entry : FloorState → ℕ → ℕ → Option ℕ
component_entry floor number own = slice_get (slice_index_or floor.components number []) own

-- the position of an entry and its place (None if it has no place) are those of the cell at that
-- position in the team of that number
pub record IsCommittedAt (floor : FloorState) (number own : ℕ) (entry : ℕ × Option Place) : Type 0 where
  pub position : component_entry floor number own ≡ Some entry.0
  pub place : option_map (λ c. c.committed) (cell_in floor number own) ≡ Some entry.1

-- all movable components: the positions of their entries, ascending, each with the committed place
-- of its cell. Each entry is that of a team's cell, and the list has each cell of each team and
-- each entry
pub record AreCommittedPlaces (floor : FloorState) (places : List (ℕ × Option Place)) : Type 0 where
  pub rise : AllPairs (λ entry later. entry.0 < later.0) places
  pub theirs : All (λ entry. (number : ℕ) × (own : ℕ) × IsCommittedAt floor number own entry) places
  pub cells : (number own : ℕ) (c : Cell) → cell_in floor number own ≡ Some c
      → (position : ℕ) × (component_entry floor number own ≡ Some position) × Contains places (position, c.committed)
  pub entries : (number own position : ℕ) → component_entry floor number own ≡ Some position
      → (c : Cell) × (cell_in floor number own ≡ Some c) × Contains places (position, c.committed)

-- ---- laws

-- on a floor with the entries of a loaded design, the list has the entries of its cells, in loading
-- order, whatever commands the floor has run
abbrev pub PlacesFollowDesign : Type 0
PlacesFollowDesign =
    (design : Loaded) (floor : FloorState) (places : List (ℕ × Option Place))
    → floor.components ≡ initial_components design
    → AreCommittedPlaces floor places → map (λ entry. entry.0) places ≡ map (λ c. c.component) design.cells

-- when a floor begins, the list has the cells' places in the DEF text
abbrev pub PlacesBeginAsLoaded : Type 0
PlacesBeginAsLoaded =
    (design : Loaded) (places : List (ℕ × Option Place)) → AreCommittedPlaces (initial_floor design) places
    → places ≡ map (λ c. (c.component, c.place)) design.cells
