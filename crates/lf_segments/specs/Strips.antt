-- Strips: the areas of segments, their order, and the search for them.
use Rattle.std.specs.Prelude.{◌≡◌, ◌≢◌, ◌⊎◌, ◌↔◌, ◌==◌, if◌then◌else◌, nat_lt, Bool, ℕ, ◌<◌, ◌≤◌, ℤ, pos, negsuc, ◌+ℤ◌, ◌≤ℤ◌, ◌<ℤ◌, List}
use Rattle.std.specs.Prelude.{length, map, AllPairs, All, Any, int_le, int_lt, slice_get, slice_index_or}
use Rattle.std.specs.Option.{option_map_or}
use Rattle.lf_units.specs.declared.geometry.Rect.{Rect}
use Rattle.lf_floorplan.specs.declared.frame.Frame.{Frame}
use Rattle.lf_segments.specs.declared.segment.Segment.{Segment}
use Rattle.lf_segments.specs.declared.rows_by_y.RowEntry.{RowEntry}
use Rattle.lf_segments.specs.declared.strip.Strip.{Strip}
use Rattle.lf_segments.specs.RowsByY.{IsRunBetween}

-- The y of the row with this number.
abbrev pub row_y : Frame → ℕ → ℤ
row_y f row = option_map_or (λ r. r.y) (slice_get f.rows row) (pos 0)

-- The strip of a segment: the area of its row over its span.
abbrev pub strip_of : Frame → Segment → Strip
strip_of f g = record {
  row = g.row;
  team = g.team;
  area = record { x1 = g.span.lo; y1 = row_y f g.row; x2 = g.span.hi; y2 = row_y f g.row +ℤ f.pitch.y };
}

-- The order of strips: by row, then by team, then by x, without overlap.
abbrev pub LiesBefore : Strip → Strip → Type 0
LiesBefore a b = (a.row < b.row)
    ⊎ ((a.row ≡ b.row) × ((a.team < b.team) ⊎ ((a.team ≡ b.team) × (a.area.x2 ≤ℤ b.area.x1))))

-- The rows of strips.
abbrev pub rows_in : List Strip → List ℕ
rows_in strips = map (λ g. g.row) strips

-- The strip has points, lies within the coordinates of a DEF text, is as high as a row, and its row
-- has an entry.
pub record IsPlaced (rows : List RowEntry) (height : ℤ) (g : Strip) : Type 0 where
  pub wide : g.area.x1 <ℤ g.area.x2
  pub x_low : negsuc 2147483647 ≤ℤ g.area.x1
  pub x_high : g.area.x2 ≤ℤ pos 2147483647
  pub y_low : negsuc 2147483647 ≤ℤ g.area.y1
  pub high : g.area.y2 ≡ g.area.y1 +ℤ height
  pub found : Any (λ e. (e.row ≡ g.row) × (e.y ≡ g.area.y1)) rows

-- Strips in order, each placed, over rows of this height, whose entries are of different rows.
pub record AreStrips (rows : List RowEntry) (height : ℤ) (strips : List Strip) : Type 0 where
  pub in_order : AllPairs LiesBefore strips
  pub placed : All (IsPlaced rows height) strips
  pub once : AllPairs (λ a b. a.row ≢ b.row) rows
  pub high : pos 0 <ℤ height
  pub small : height ≤ℤ pos 20000000000

-- The strip is of the row and the team, ends right of `lo` and begins left of `hi`.
pub record IsNear (row team : ℕ) (lo hi : ℤ) (g : Strip) : Type 0 where
  pub in_row : g.row ≡ row
  pub of_team : g.team ≡ team
  pub right : lo <ℤ g.area.x2
  pub left : g.area.x1 <ℤ hi

-- The numbers from start on and below end are those of the near strips.
pub record AreNear (strips : List Strip) (row team : ℕ) (lo hi : ℤ) (start end : ℕ) : Type 0 where
  pub within : end ≤ length strips
  pub exact : (n : ℕ) (d : Strip) → n < length strips
      → (((start ≤ n) × (n < end)) ↔ IsNear row team lo hi (slice_index_or strips n d))

-- The rows' entries near a rectangle: those of all rows whose strips may share a point with it.
pub record AreRowsNear (rows : List RowEntry) (height : ℤ) (rect : Rect) (run : List RowEntry) : Type 0 where
  pub from : ℤ
  pub part : IsRunBetween rows from rect.y2 run
  pub reach : (y : ℤ) → negsuc 2147483647 ≤ℤ y → rect.y1 <ℤ (y +ℤ height) → from ≤ℤ y

-- The strip is of an earlier row or team. For a strip of this row and team, the value is `left`.
abbrev pub is_earlier : ℕ → ℕ → Bool → Strip → Bool
is_earlier row team left g = if g.row == row then (if g.team == team then left else nat_lt g.team team)
    else nat_lt g.row row

-- True if the strip with this number is of an earlier row or team. For one of this row and team,
-- true if it ends at x or left of it.
abbrev pub is_ended : List Strip → ℕ → ℕ → ℤ → ℕ → Strip → Bool
is_ended strips row team x k d =
    is_earlier row team (int_le (slice_index_or strips k d).area.x2 x) (slice_index_or strips k d)

-- True if the strip with this number is of an earlier row or team. For one of this row and team,
-- true if it begins left of x.
abbrev pub is_begun : List Strip → ℕ → ℕ → ℤ → ℕ → Strip → Bool
is_begun strips row team x k d =
    is_earlier row team (int_lt (slice_index_or strips k d).area.x1 x) (slice_index_or strips k d)
