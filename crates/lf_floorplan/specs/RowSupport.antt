-- A box on rows (DEF ROW): its height in sites, its bottom row, and the rows above that one.
use Rattle.std.specs.Prelude.{◌≡◌, ℕ, ℤ, zero, suc, pos, ◌≤◌, ◌<◌, ◌+ℤ◌, ◌-ℤ◌, ◌*ℤ◌, ◌≤ℤ◌, ◌<ℤ◌, All, Contains, MatchOption, Option, Some, slice_get}
use Rattle.std.specs.Option.{IsSomeAnd, option_map}
use Rattle.lf_units.specs.declared.geometry.Rect.{Rect}
use Rattle.lf_orient.specs.declared.Rail.{Rail}
use Rattle.lf_orient.specs.Orientation.{rail_below, other_rail}
use Rattle.lf_floorplan.specs.declared.frame.Frame.{Frame}
use Rattle.lf_floorplan.specs.declared.parts.Row.{Row}
use Rattle.lf_floorplan.specs.Rows.{row_area}

-- The box is k core sites high, and k is from 1 to 8.
pub record IsSitesHigh (f : Frame) (box : Rect) (k : ℕ) : Type 0 where
  pub least : 1 ≤ k
  pub most : k ≤ 8
  pub high : box.y2 ≡ box.y1 +ℤ (pos k *ℤ f.pitch.y)

-- Row j of the box: it lies j site heights above the box's lower edge, and its extent holds the
-- box's x range.
pub record IsRowOfBox (f : Frame) (box : Rect) (j : ℕ) (r : Row) : Type 0 where
  pub at_level : r.y ≡ box.y1 +ℤ (pos j *ℤ f.pitch.y)
  pub left : r.x ≤ℤ box.x1
  pub right : box.x2 ≤ℤ (row_area f.pitch r).x2

-- The row lies at this y and extends over x.
pub record ExtendsOver (f : Frame) (y x : ℤ) (r : Row) : Type 0 where
  pub at_level : r.y ≡ y
  pub left : r.x ≤ℤ x
  pub right : x <ℤ (row_area f.pitch r).x2

-- The position of the row of core sites at this y that extends over x; `None` if there is no such
-- row.
abbrev pub IsRowAt : Frame → ℤ → ℤ → Option ℕ → Type 0
IsRowAt f y x found = MatchOption found (All (λ r. ExtendsOver f y x r → ⊥) f.rows)
    (λ n. IsSomeAnd (slice_get f.rows n) (ExtendsOver f y x))

-- The bottom row of the box: a row of core sites that is its row 0, and whose x grid holds the
-- box's x.
pub record IsBottomRow (f : Frame) (box : Rect) (r : Row) : Type 0 where
  pub core_ones : Contains f.rows r
  pub at_bottom : IsRowOfBox f box 0 r
  pub site : ℕ
  pub on_grid : box.x1 -ℤ r.x ≡ pos site *ℤ f.pitch.x

-- A rail, alternated j times.
abbrev pub rail_alternated : ℕ → Rail → Rail
rail_alternated zero rail = rail
rail_alternated (suc j) rail = other_rail (rail_alternated j rail)

-- Row s carries the box: it is the box's row j, and its rail is the bottom row's, alternated j
-- times.
pub record Supports (f : Frame) (box : Rect) (bottom : Row) (j : ℕ) (s : Row) : Type 0 where
  pub core_ones : Contains f.rows s
  pub at_row : IsRowOfBox f box j s
  pub rail : rail_below s.orient ≡ option_map (rail_alternated j) (rail_below bottom.orient)

-- The box is from 1 to 8 core sites high.
abbrev pub HasHeight : Frame → Rect → Type 0
HasHeight f box = (k : ℕ) × IsSitesHigh f box k

-- The box has a bottom row.
abbrev pub HasBottomRow : Frame → Rect → Type 0
HasBottomRow f box = (r : Row) × IsBottomRow f box r

-- For each j below the height, a row of core sites carries the box as its row j.
abbrev pub IsSupported : Frame → Rect → Type 0
IsSupported f box =
    (k : ℕ) (r : Row) → IsSitesHigh f box k → IsBottomRow f box r → (j : ℕ) → j < k → (s : Row) × Supports f box r j s

-- The box rests on rows: it has a height and a bottom row, and rows carry it over its height.
pub record RestsOnRows (f : Frame) (box : Rect) : Type 0 where
  pub height : HasHeight f box
  pub row : HasBottomRow f box
  pub are_placed : IsSupported f box

-- A box has at most one height in sites, and a box with a width has at most one bottom row.
pub record BottomRowIsUnique : Type 0 where
  pub height : (f : Frame) (box : Rect) (j k : ℕ) → IsSitesHigh f box j → IsSitesHigh f box k → j ≡ k
  pub bottom : (f : Frame) (box : Rect) (r s : Row) → box.x1 <ℤ box.x2 → IsBottomRow f box r
      → IsBottomRow f box s → r ≡ s

-- At most one row of a frame lies at a y and extends over an x.
abbrev pub RowAtIsUnique : Type 0
RowAtIsUnique =
    (f : Frame) (y x : ℤ) (m n : ℕ) (r s : Row) → slice_get f.rows m ≡ Some r → slice_get f.rows n ≡ Some s
    → ExtendsOver f y x r → ExtendsOver f y x s →
    m ≡ n
