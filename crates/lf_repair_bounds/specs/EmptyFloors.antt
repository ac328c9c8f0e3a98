-- A floor without cells, which has for each team an unplaced cell of each macro of its cells. No
-- public clause cites this module.
use Rattle.std.specs.Prelude.{◌≡◌, ◌≢◌, ◌⊎◌, ◌+◌, ◌<◌, ◌≤◌, ◌++◌, ◌∷◌, ℕ, List, [], All, Option, None, Some, drop, length, max, slice_get}
use Rattle.lf_floorplan.specs.declared.frame.Frame.{Frame}
use Rattle.lf_floorplan.specs.declared.loaded.LoadedCell.{LoadedCell}
use Rattle.lf_floorplan.specs.Design.{CellsNamed, ComponentsRise, IsCell}
use Rattle.lf_cells.specs.Cells.{Cells, cells_of}
use Rattle.lf_occupancy.specs.Floorplans.{HaveSize, IsMarkedBy}
use Rattle.lf_occupancy.specs.Strips.{Marked}

-- the cell, unplaced, as the entry of this position
abbrev pub unplaced_cell_at : ℕ → LoadedCell → LoadedCell
unplaced_cell_at at c = record c { place = None; component = at }

-- no cell is placed
abbrev pub AreUnplaced : List LoadedCell → Type 0
AreUnplaced cells = All (λ c. c.place ≡ None) cells

-- the cell is appended, unplaced, or the list is unchanged
abbrev pub IsKeptOr : ℕ → LoadedCell → List LoadedCell → List LoadedCell → Type 0
IsKeptOr at c old new = (new ≡ old) ⊎ (new ≡ old ++ unplaced_cell_at at c ∷ [])

-- cells that were kept from the first `at` cells
pub record AreFirstCells (f : Frame) (cells : List LoadedCell) (at : ℕ) (kept : List LoadedCell) : Type 0 where
  pub few : length kept + length (drop at cells) ≤ length cells
  pub known : All (IsCell f) kept
  pub named : CellsNamed (kept ++ drop at cells)
  pub rise : ComponentsRise kept
  pub before : All (λ c. c.component < at) kept
  pub unplaced : AreUnplaced kept

-- the table has cells of the frame, of whole size, at most 4,000,000 in each team, and no cell is
-- placed
pub record IsEmptyTable (f : Frame) (table : Cells) : Type 0 where
  pub sized : HaveSize f table
  pub few : (team : ℕ) → length (cells_of table team) ≤ 4000000
  pub unplaced : (team : ℕ) → All (λ c. c.working ≡ None) (cells_of table team)

-- a frame, and the cells of a floor without placed cells
pub record EmptyFloorView : Type 0 where
  pub frame : Frame
  pub table : Cells

-- the two of them
abbrev pub empty_floor_of : Frame → Cells → EmptyFloorView
empty_floor_of f table = record { frame = f; table = table }

-- the floor without placed cells belongs to this frame
pub record IsEmptyFloorOf (f : Frame) (table : Cells) (m : Marked) : Type 0 where
  pub cells : IsEmptyTable f table
  pub marked : IsMarkedBy f table m

-- the number raised to the displacement, if there is one and it is larger
abbrev pub raised : ℕ → Option ℕ → ℕ
raised was None = was
raised was (Some way) = max was way

-- the team's number is raised, and the others are unchanged
pub record IsRaised (team : ℕ) (way : Option ℕ) (old new : List ℕ) : Type 0 where
  pub many : length new ≡ length old
  pub others : (other : ℕ) → other ≢ team → slice_get new other ≡ slice_get old other
  pub own : (was : ℕ) → slice_get old team ≡ Some was → slice_get new team ≡ Some (raised was way)
