-- Pieces of rows or fences: rectangles, each with the number of its entry.
use Rattle.std.specs.Prelude.{◌≢◌, ℕ, ◌<◌, ◌≤ℤ◌, ◌⊎◌, if◌then◌else◌, List, [], ◌∷◌, length, map, slice_index_or, All, AllPairs, Contains}
use Rattle.lf_units.specs.declared.geometry.Point.{Point}
use Rattle.lf_units.specs.declared.geometry.Rect.{Rect}
use Rattle.lf_units.specs.Area.{SharesPoint}
use Rattle.lf_floorplan.specs.declared.sites.Site.{Site}
use Rattle.lf_def.specs.declared.rows.RowStatement.{RowStatement}
use Rattle.lf_def.specs.declared.regions.Region.{Region}
use Rattle.lf_floorplan.specs.Rows.{row_area}
use Rattle.lf_def.specs.Kinds.{is_fence}
use Rattle.lf_frame.specs.Loading.{is_core_row, frame_row}
use Rattle.lf_frame.specs.declared.sweep.SweepRect.{SweepRect}

-- The points of a piece.
abbrev pub piece_area : SweepRect → Rect
piece_area p = record { x1 = p.left; y1 = p.bottom; x2 = p.right; y2 = p.top }

-- The piece of an entry with these points.
abbrev pub piece_of : ℕ → Rect → SweepRect
piece_of entry area = record { entry = entry; left = area.x1; right = area.x2; bottom = area.y1; top = area.y2 }

-- Holds if the first piece ends left of the second, or below it. A piece without points ends before
-- itself.
abbrev pub EndsBefore : SweepRect → SweepRect → Type 0
EndsBefore a b = (a.right ≤ℤ b.left) ⊎ (a.top ≤ℤ b.bottom)

-- Holds if the pieces are of different entries and share a point.
pub record Clash (a b : SweepRect) : Type 0 where
  pub entries : a.entry ≢ b.entry
  pub point : SharesPoint (piece_area a) (piece_area b)

-- Holds if the piece clashes with no piece of the list.
abbrev pub ClashesWithNone : SweepRect → List SweepRect → Type 0
ClashesWithNone a pieces = All (λ b. Clash a b → ⊥) pieces

-- Holds if no two pieces of the list clash.
abbrev pub NoneClash : List SweepRect → Type 0
NoneClash pieces = All (λ a. ClashesWithNone a pieces) pieces

-- Holds if no piece begins below an earlier one.
abbrev pub PiecesRise : List SweepRect → Type 0
PiecesRise pieces = AllPairs (λ a b. a.bottom ≤ℤ b.bottom) pieces

-- The pieces of a row: all of it, if it is a core row.
abbrev pub row_pieces : Site → Point → ℕ → RowStatement → List SweepRect
row_pieces core pitch number r = if is_core_row core r then piece_of number (row_area pitch (frame_row r)) ∷ [] else []

-- The pieces of a region: its rectangles, if it is a fence.
abbrev pub fence_pieces : ℕ → Region → List SweepRect
fence_pieces number r = if is_fence r then map (λ rect. piece_of number rect) r.rects else []

-- Holds if each piece of each entry is in the list.
abbrev pub ArePiecesOf : {A : Type 0} → (ℕ → A → List SweepRect) → List A → List SweepRect → Type 0
ArePiecesOf {A} own entries pieces = (k : ℕ) (d : A) → k < length entries
    → All (Contains pieces) (own k (slice_index_or entries k d))
