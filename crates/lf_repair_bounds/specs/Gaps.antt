-- Gaps: the widest free runs of sites in the rows near given places of cells.
use Rattle.std.specs.Prelude.{◌≡◌, ◌⊎◌, ℕ, ℤ, pos, ◌+◌, ◌*◌, ◌≤◌, ◌+ℤ◌, ◌-ℤ◌, ◌*ℤ◌, List, Option, All, Contains, IfSome, MatchOption, option_and_then, slice_get}
use Rattle.std.specs.Int.RustNames.{unsigned_abs}
use Rattle.std.specs.List.{AllZip}
use Rattle.std.specs.Option.{option_map_or}
use Rattle.lf_units.specs.declared.geometry.Point.{Point}
use Rattle.lf_units.specs.declared.geometry.Rect.{Rect}
use Rattle.lf_units.specs.Area.{SharesPoint}
use Rattle.lf_floorplan.specs.declared.frame.Frame.{Frame}
use Rattle.lf_floorplan.specs.declared.parts.Row.{Row}
use Rattle.lf_floorplan.specs.declared.place.Place.{Place}
use Rattle.lf_floorplan.specs.Ground.{IsClear, OverlapsSoft, StaysInGround}
use Rattle.lf_floorplan.specs.Rows.{row_area}
use Rattle.lf_rules.specs.Choice.{anchor}
use Rattle.lf_rules.specs.Padding.{length_of, wider}
use Rattle.lf_cells.specs.declared.cell.Cell.{Cell}
use Rattle.lf_occupancy.specs.Floorplans.{working_box_of}
use Rattle.lf_repair_bounds.specs.ImpossibleMacros.{IsUsableAt}
use Rattle.lf_repair_bounds.specs.MinDisplacements.{corner}

-- the cells of a team at their places: the frame, the team's number, its padding in core sites, and
-- its cells in loading order
pub record PlacedTeam : Type 0 where
  pub frame : Frame
  pub team : ℕ
  pub padding : ℕ
  pub cells : List Cell

-- the four of them
abbrev pub placed_team : Frame → ℕ → ℕ → List Cell → PlacedTeam
placed_team f team padding cells = record { frame = f; team = team; padding = padding; cells = cells }

-- the area of `count` sites of the row, from the one at position `first` on
abbrev pub sites_area : Frame → Row → ℕ → ℕ → Rect
sites_area f r first count = row_area f.pitch (record r { x = r.x +ℤ (pos first *ℤ f.pitch.x); sites = count })

-- the cell is unplaced, or its box, widened by the team's padding on its left and on its right,
-- shares no point with the area
abbrev pub KeepsApart : PlacedTeam → Rect → Cell → Type 0
KeepsApart t area c =
    IfSome (working_box_of t.frame c) (λ box. SharesPoint (wider (length_of t.frame t.padding) box) area → ⊥)

-- the `count` sites of the row from the one at position `first` on are free for the team: they are
-- its ground, in no obstacle and in no soft blockage, and apart from its placed cells
pub record IsFreeRun (t : PlacedTeam) (r : Row) (first count : ℕ) : Type 0 where
  pub within : (first + count) ≤ r.sites
  pub in_ground : StaysInGround t.frame t.team (sites_area t.frame r first count)
  pub clear : IsClear t.frame (sites_area t.frame r first count)
  pub off_soft : OverlapsSoft t.frame (sites_area t.frame r first count) → ⊥
  pub apart : All (KeepsApart t (sites_area t.frame r first count)) t.cells

-- the team may use a point of the row
abbrev pub IsRowOfTeam : Frame → ℕ → Row → Type 0
IsRowOfTeam f team r = (x : ℤ) × IsUsableAt f r team x

-- the distance of the row from the point along y
abbrev pub row_distance : Point → Row → ℕ
row_distance target r = unsigned_abs (r.y -ℤ target.y)

-- the row is near the point: it is at most 8 row heights farther from it along y than the team's
-- nearest row
abbrev pub IsNearRow : PlacedTeam → Point → Row → Type 0
IsNearRow t target r =
    All (λ s. IsRowOfTeam t.frame t.team s
    → row_distance target r ≤ (row_distance target s + 8 * unsigned_abs t.frame.pitch.y)) t.frame.rows

-- a free run in a row near the point is this wide
pub record HasFreeRun (t : PlacedTeam) (target : Point) (width : ℕ) : Type 0 where
  pub row : Row
  pub first : ℕ
  pub count : ℕ
  pub of_frame : Contains t.frame.rows row
  pub near : IsNearRow t target row
  pub free : IsFreeRun t row first count
  pub is : pos width ≡ pos count *ℤ t.frame.pitch.x

-- the widest free run in the rows near the point is this wide; 0 if there is no free run
pub record IsGapAt (t : PlacedTeam) (target : Point) (width : ℕ) : Type 0 where
  pub is_one : (width ≡ 0) ⊎ HasFreeRun t target width
  pub no_wider : (other : ℕ) → HasFreeRun t target other → other ≤ width

-- the place at this position in a list of places; None also past its end
abbrev pub place_at : List (Option Place) → ℕ → Option Place
place_at places own = option_and_then (λ place. place) (slice_get places own)

-- the point near which gaps are searched for: the corner of this place, or the team's anchor without one
abbrev pub gap_target : PlacedTeam → Option Place → Point
gap_target t place = option_map_or corner place (anchor t.frame t.team)

-- the gap of the team's cell at this position: the width of the widest free run near the place that is
-- given for it; 0 if there is no such cell
abbrev pub IsGapOf : PlacedTeam → (ℕ → Option Place) → ℕ → ℕ → Type 0
IsGapOf t place_of own width =
    MatchOption (slice_get t.cells own) (width ≡ 0) (λ c. IsGapAt t (gap_target t (place_of own)) width)

-- the gaps of the cells at these positions, near these places
abbrev pub AreGaps : PlacedTeam → (ℕ → Option Place) → List ℕ → List ℕ → Type 0
AreGaps t place_of owns gaps = AllZip (IsGapOf t place_of) owns gaps
