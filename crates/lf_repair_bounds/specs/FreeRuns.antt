-- Free runs in the strips of a team. No public clause cites this module.
use Rattle.std.specs.Prelude.{◌≡◌, ◌⊎◌, ◌↔◌, ℕ, ℤ, pos, negsuc, ◌*◌, ◌<◌, ◌≤◌, ◌+ℤ◌, ◌*ℤ◌, ◌≤ℤ◌, ◌<ℤ◌, List, [], ◌∷◌, All, Any, Option, None, Some, slice_get, take}
use Rattle.std.specs.Int.{int_max, int_min}
use Rattle.lf_units.specs.declared.geometry.Rect.{Rect}
use Rattle.lf_units.specs.Area.{SharesPoint}
use Rattle.lf_floorplan.specs.declared.frame.Frame.{Frame}
use Rattle.lf_floorplan.specs.declared.parts.Row.{Row}
use Rattle.lf_floorplan.specs.declared.place.Place.{Place}
use Rattle.lf_floorplan.specs.Ground.{OverlapsSoft}
use Rattle.lf_floorplan.specs.Rows.{row_area}
use Rattle.lf_segments.specs.declared.strip.Strip.{Strip}
use Rattle.lf_units.specs.declared.placed.Placed.{Placed}
use Rattle.lf_rules.specs.Choice.{spot_of}
use Rattle.lf_rules.specs.Padding.{length_of, wider}
use Rattle.lf_rules.specs.Team.{box_in}
use Rattle.lf_cells.specs.declared.cell.Cell.{Cell}
use Rattle.lf_repair_bounds.specs.declared.near_runs.RowRun.{RowRun}
use Rattle.lf_repair_bounds.specs.declared.site_runs.SiteRange.{SiteRange}
use Rattle.lf_repair_bounds.specs.Gaps.{KeepsApart, IsFreeRun, IsRowOfTeam, PlacedTeam, sites_area}

-- the rectangle as a box without an owner
abbrev pub blocked_box : Rect → Placed
blocked_box rect = record { own = 0; rect = rect }

-- the box of a macro at a place, widened by the padding; no box without a place
abbrev pub padded_boxes : Frame → ℕ → ℕ → Option Place → List Placed
padded_boxes f padding mac None = []
padded_boxes f padding mac (Some p) = blocked_box (wider (length_of f padding) (box_in f mac (spot_of p))) ∷ []

-- the same of the cell at its working place; no box without a cell
abbrev pub cell_boxes : Frame → ℕ → Option Cell → List Placed
cell_boxes f padding None = []
cell_boxes f padding (Some c) = padded_boxes f padding c.mac c.working

-- none of the boxes shares a point with the area
abbrev pub AreOff : Rect → List Placed → Type 0
AreOff area boxes = All (λ p. SharesPoint p.rect area → ⊥) boxes

-- the area is apart from the team's placed cells and in no soft blockage
pub record IsUnblocked (t : PlacedTeam) (area : Rect) : Type 0 where
  pub apart : All (KeepsApart t area) t.cells
  pub off_soft : OverlapsSoft t.frame area → ⊥

-- the boxes share no point with exactly the areas that are not blocked
abbrev pub AreBlockedOf : PlacedTeam → List Placed → Type 0
AreBlockedOf t boxes = (area : Rect) → (AreOff area boxes ↔ IsUnblocked t area)

-- the boxes share no point with exactly the areas that are apart from the first n cells
abbrev pub AreOffCells : PlacedTeam → ℕ → List Placed → Type 0
AreOffCells t n boxes = (area : Rect) → (AreOff area boxes ↔ All (KeepsApart t area) (take n t.cells))

-- the end of `m` sites of a row that begins at x
abbrev pub site_end : ℤ → ℕ → ℕ → ℤ
site_end x step m = x +ℤ pos (m * step)

-- the sites of a strip that the rectangle covers in part, in a row that begins at x
pub record CoversSites (x : ℤ) (step : ℕ) (area rect : Rect) (range : SiteRange) : Type 0 where
  pub from : (m : ℕ) → (m ≤ range.from ↔ site_end x step m ≤ℤ int_max rect.x1 area.x1)
  pub to : (m : ℕ) → (range.to ≤ m ↔ int_min rect.x2 area.x2 ≤ℤ site_end x step m)

-- the sites of a row that begins at x which lie in the area
pub record HasSites (x : ℤ) (step : ℕ) (area : Rect) (range : SiteRange) : Type 0 where
  pub from : (m : ℕ) → (range.from ≤ m ↔ area.x1 ≤ℤ site_end x step m)
  pub to : (m : ℕ) → (m ≤ range.to ↔ site_end x step m ≤ℤ area.x2)

-- these are the ranges of sites that the boxes cover in part
pub record AreCovered (x : ℤ) (step : ℕ) (area : Rect) (boxes : List Placed) (ranges : List SiteRange) : Type 0 where
  pub are : All (λ range. Any (λ p. CoversSites x step area p.rect range) boxes) ranges
  pub each : All (λ p. Any (λ range. CoversSites x step area p.rect range) ranges) boxes

-- the area is as high as the row, and its x range lies in that of the row
pub record LiesOnRow (f : Frame) (r : Row) (area : Rect) : Type 0 where
  pub left : r.x ≤ℤ area.x1
  pub wide : area.x1 <ℤ area.x2
  pub right : area.x2 ≤ℤ (row_area f.pitch r).x2
  pub from : negsuc 2147483647 ≤ℤ r.x
  pub to : area.x2 ≤ℤ pos 2147483647
  pub bottom : area.y1 ≡ r.y
  pub top : area.y2 ≡ r.y +ℤ f.pitch.y

-- the strip lies on its row
pub record IsInRow (f : Frame) (g : Strip) : Type 0 where
  pub row : Row
  pub is_in_place : slice_get f.rows g.row ≡ Some row
  pub lies : LiesOnRow f row g.area

-- the sites lie in the strip's area, and no box shares a point with them
pub record IsStripRun (f : Frame) (r : Row) (area : Rect) (boxes : List Placed) (first count : ℕ) : Type 0 where
  pub left : area.x1 ≤ℤ (sites_area f r first count).x1
  pub right : (sites_area f r first count).x2 ≤ℤ area.x2
  pub off : AreOff (sites_area f r first count) boxes

-- the widest of these runs is this wide; 0 if there is none
pub record IsWidestIn (f : Frame) (r : Row) (area : Rect) (boxes : List Placed) (width : ℕ) : Type 0 where
  pub is_one : (width ≡ 0)
      ⊎ ((first : ℕ) × (count : ℕ) × IsStripRun f r area boxes first count × (pos width ≡ pos count *ℤ f.pitch.x))
  pub no_wider : (first count : ℕ) → 0 < count → IsStripRun f r area boxes first count
      → (pos count *ℤ f.pitch.x) ≤ℤ pos width

-- the y of the strip's row, and the width of the widest run of the strip
pub record IsRunOfStrip (f : Frame) (boxes : List Placed) (g : Strip) (run : RowRun) : Type 0 where
  pub row : Row
  pub is_in_place : slice_get f.rows g.row ≡ Some row
  pub y : run.y ≡ row.y
  pub widest : IsWidestIn f row g.area boxes run.width

-- the runs are those of the team's strips
pub record AreRunsOfStrips (f : Frame) (team : ℕ) (boxes : List Placed) (strips : List Strip)
    (runs : List RowRun) : Type 0 where
  pub are : All (λ run. Any (λ g. (g.team ≡ team) × IsRunOfStrip f boxes g run) strips) runs
  pub each : All (λ g. g.team ≡ team → Any (λ run. IsRunOfStrip f boxes g run) runs) strips

-- the width is that of a free run of the row; 0 if the row has no free run
abbrev pub IsWidthOfRun : PlacedTeam → Row → ℕ → Type 0
IsWidthOfRun t r width = (width ≡ 0)
    ⊎ ((first : ℕ) × (count : ℕ) × IsFreeRun t r first count × (pos width ≡ pos count *ℤ t.frame.pitch.x))

-- the run is in this row of the team
pub record IsRunInRow (t : PlacedTeam) (run : RowRun) (r : Row) : Type 0 where
  pub y : run.y ≡ r.y
  pub of_team : IsRowOfTeam t.frame t.team r
  pub is : IsWidthOfRun t r run.width

-- the runs are free, in rows of the team; each row of the team has one; no free run is wider than
-- those of its row
pub record AreRunsOfTeam (t : PlacedTeam) (runs : List RowRun) : Type 0 where
  pub are : All (λ run. Any (IsRunInRow t run) t.frame.rows) runs
  pub each : All (λ r. IsRowOfTeam t.frame t.team r → Any (λ run. run.y ≡ r.y) runs) t.frame.rows
  pub widest : All (λ r. (first count : ℕ) → 0 < count → IsFreeRun t r first count
      → Any (λ run. (run.y ≡ r.y) × ((pos count *ℤ t.frame.pitch.x) ≤ℤ pos run.width)) runs) t.frame.rows
