-- The steps of building an occupancy.
use Rattle.std.specs.Prelude.{◌≡◌, ◌⊎◌, ◌<◌, ◌%◌, ℕ, pos, List, [], All, length, Option, None, Some, slice_index_or}
use Rattle.lf_units.specs.declared.geometry.Rect.{Rect}
use Rattle.lf_floorplan.specs.declared.frame.Frame.{Frame}
use Rattle.lf_cells.specs.declared.cell.Cell.{Cell}
use Rattle.lf_cells.specs.declared.cell.CellId.{CellId}
use Rattle.lf_cells.specs.Cells.{Cells, cells_of, cell_at}
use Rattle.lf_occupancy.specs.declared.strip_marks.StripMarks.{StripMarks}
use Rattle.lf_segments.specs.declared.strip.Strip.{Strip}
use Rattle.lf_occupancy.specs.declared.boxes.PlacedCells.{PlacedCells}
use Rattle.lf_occupancy.specs.Floorplans.{working_box_of}
use Rattle.lf_occupancy.specs.Views.{cell_box}
use Rattle.lf_occupancy.specs.Strips.{ShowAllBoxes, widened_strips}

-- the strips in which the cells are marked
abbrev pub strips_to_mark : PlacedCells → List Strip
strips_to_mark placed = widened_strips placed.frame.now.pitch.x placed.index.now.strips

-- the strip has no mark
pub record HasNoMark (l : StripMarks) : Type 0 where
  pub marks : l.marks.items ≡ []
  pub widest : l.widest ≡ pos 0

-- a list of `count` strips without marks
pub record HaveNoMarks (count : ℕ) (mark_lists : List StripMarks) : Type 0 where
  pub many : length mark_lists ≡ count
  pub each : All HasNoMark mark_lists

-- the id of a cell by its position in the batch, which is in the last 16 bits of the number
abbrev pub id_at : List CellId → ℕ → CellId
id_at ids w = slice_index_or ids (w % 65536) record { team = 0; own = 0 }

-- the cell's team is less than `team`, or equal to it and the cell's position is less than `own`
abbrev pub PrecedesCell : ℕ → ℕ → CellId → Type 0
PrecedesCell team own id = (id.team < team) ⊎ ((id.team ≡ team) × (id.own < own))

-- each team has a list with an element for each of its cells: the box of the cell if it is done,
-- otherwise None
pub record AreFilled (f : Frame) (cells : Cells) (Done : CellId → Type 0)
    (boxes : List (List (Option Rect))) : Type 0 where
  pub many : (team : ℕ) → length (slice_index_or boxes team []) ≡ length (cells_of cells team)
  pub done : (id : CellId) (c : Cell) → cell_at cells id ≡ Some c → Done id
      → cell_box (slice_index_or boxes id.team []) id.own ≡ working_box_of f c
  pub rest : (id : CellId) (c : Cell) → cell_at cells id ≡ Some c → (Done id → ⊥)
      → cell_box (slice_index_or boxes id.team []) id.own ≡ None

-- the marks of the strips are those of the cells that are done
pub record AreFilledIn (f : Frame) (cells : Cells) (strips : List Strip) (Done : CellId → Type 0)
    (mark_lists : List StripMarks) : Type 0 where
  pub boxes : List (List (Option Rect))
  pub filled : AreFilled f cells Done boxes
  pub marked : ShowAllBoxes strips boxes mark_lists
