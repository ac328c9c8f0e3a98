-- The boxes of a table's cells, and the strips that contain them.
use Rattle.std.specs.Prelude.{◌≡◌, ◌<◌, ◌≤ℤ◌, ◌<ℤ◌, pos, length, ℕ, ℤ, List, map, All, Any, Option}
use Rattle.std.specs.Option.{option_map}
use Rattle.lf_units.specs.declared.geometry.Rect.{Rect}
use Rattle.lf_units.specs.Area.{Covers}
use Rattle.lf_floorplan.specs.declared.frame.Frame.{Frame}
use Rattle.lf_floorplan.specs.Boxes.{IsSized, macro_of}
use Rattle.lf_floorplan.specs.Ground.{StaysInGround, IsClear}
use Rattle.lf_floorplan.specs.RowSupport.{RestsOnRows}
use Rattle.lf_segments.specs.Indexes.{IsIndexOf}
use Rattle.lf_rules.specs.Choice.{spot_of}
use Rattle.lf_rules.specs.Padding.{wider}
use Rattle.lf_rules.specs.Team.{box_in}
use Rattle.lf_cells.specs.declared.cell.Cell.{Cell}
use Rattle.lf_cells.specs.Cells.{Cells, cells_of}
use Rattle.lf_occupancy.specs.Views.{Occupied, boxes_of, reach}
use Rattle.lf_occupancy.specs.Strips.{MarksBoxes, Marked}

-- the cell's macro is one of the frame's, of whole size
pub record HasSize (f : Frame) (c : Cell) : Type 0 where
  pub known : c.mac < length f.macros
  pub sized : IsSized f (macro_of f c.mac)

-- the box of a cell at its working place; None if it is unplaced
abbrev pub working_box_of : Frame → Cell → Option Rect
working_box_of f c = option_map (λ p. box_in f c.mac (spot_of p)) c.working

-- the boxes of all teams' cells at their working places
abbrev pub boxes_in : Frame → Cells → List (List (Option Rect))
boxes_in f cells = map (λ own. map (working_box_of f) own) cells.cells

-- the macros of all cells are the frame's, of whole size
abbrev pub HaveSize : Frame → Cells → Type 0
HaveSize f cells = (team : ℕ) → All (HasSize f) (cells_of cells team)

-- the boxes are those of the table's cells at their working places
abbrev pub HoldsCells : Frame → Cells → Occupied → Type 0
HoldsCells f cells o = (team : ℕ) → boxes_of o team ≡ map (working_box_of f) (cells_of cells team)

-- the occupancy is of this frame, and holds the working places of this table's cells
pub record IsOccupancyOf (f : Frame) (cells : Cells) (o : Occupied) : Type 0 where
  pub index : IsIndexOf f o.index
  pub site : o.site ≡ f.pitch.x
  pub boxes : HoldsCells f cells o

-- the marks are of this frame, and of the working places of this table's cells
pub record IsMarkedBy (f : Frame) (cells : Cells) (m : Marked) : Type 0 where
  pub index : IsIndexOf f m.index
  pub site : m.site ≡ f.pitch.x
  pub holds : MarksBoxes m (boxes_in f cells)

-- each point of a box that rests on rows, stays in a team's ground and is clear of obstacles lies
-- in one of the team's strips
abbrev pub StripsCover : Type 0
StripsCover =
    (f : Frame) (o : Occupied) (team : ℕ) (box : Rect) → IsIndexOf f o.index → RestsOnRows f box
    → StaysInGround f team box → IsClear f box →
    (x y : ℤ) → Covers box x y → Any (λ g. (g.team ≡ team) × Covers g.area x y) o.index.strips

-- each point of a box that also has points, widened by no more than the reach, lies in one of the
-- team's strips widened by the reach
abbrev pub WidenedStripsCover : Type 0
WidenedStripsCover =
    (f : Frame) (o : Occupied) (team : ℕ) (box : Rect) (by : ℤ) → IsIndexOf f o.index → o.site ≡ f.pitch.x
    → RestsOnRows f box →
    StaysInGround f team box → IsClear f box → box.x1 <ℤ box.x2 → pos 0 ≤ℤ by → by ≤ℤ reach o →
    (x y : ℤ) → Covers (wider by box) x y
    → Any (λ g. (g.team ≡ team) × Covers (wider (reach o) g.area) x y) o.index.strips
