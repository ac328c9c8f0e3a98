-- Bins: squares over the core of a design, in columns and rows.
use Rattle.std.specs.Prelude.{ℕ, ℤ, pos, ◌-ℤ◌, false, ◌+◌, ◌-◌, ◌*◌, ◌/◌, ◌%◌, ◌≤◌, ◌<◌, Bool, if◌then◌else◌, List, Option, Some, None, fold, int_le, map, max, min, nat_le, nat_lt, slice_get, sum}
use Rattle.std.specs.Int.RustNames.{unsigned_abs}
use Rattle.std.specs.List.{range_with_len}
use Rattle.std.specs.Option.{option_map_or}
use Rattle.lf_units.specs.declared.geometry.Point.{Point}
use Rattle.lf_units.specs.declared.geometry.Rect.{Rect}
use Rattle.lf_floorplan.specs.declared.frame.Frame.{Frame}
use Rattle.lf_floorplan.specs.declared.parts.Row.{Row}
use Rattle.lf_floorplan.specs.Rows.{row_area}
use Rattle.lf_segments.specs.Indexes.{hull}
use Rattle.lf_density.specs.declared.grid.BinGrid.{BinGrid}

-- ---- the core

-- The areas of the rows.
abbrev pub row_boxes : Point → List Row → List Rect
row_boxes pitch rows = map (row_area pitch) rows

-- The least box that holds this one and all others.
abbrev pub box_around : Rect → List Rect → Rect
box_around box others = fold hull box others

-- A box without points.
abbrev pub no_box : Rect
no_box = record { x1 = pos 0; y1 = pos 0; x2 = pos 0; y2 = pos 0 }

-- The least box that holds all core rows.
abbrev pub core_box : Frame → Rect
core_box f = box_around (option_map_or (row_area f.pitch) (slice_get f.rows 0) no_box) (row_boxes f.pitch f.rows)

-- ---- the grid

-- How far x is past `from`; 0 if it is not past it.
abbrev pub past : ℤ → ℤ → ℕ
past from x = if int_le x from then 0 else unsigned_abs (x -ℤ from)

-- How many parts of this length are needed for the whole.
abbrev pub parts_of : ℕ → ℕ → ℕ
parts_of whole part = whole / part + min 1 (whole % part)

-- The bins over the box, for rows of this height: squares of five rows' height, as many in x and y
-- as the box needs.
abbrev pub grid_over : Rect → ℕ → BinGrid
grid_over core height = record {
  left = core.x1;
  bottom = core.y1;
  side = height * 5;
  columns = parts_of (past core.x1 core.x2) (height * 5);
  rows = parts_of (past core.y1 core.y2) (height * 5);
}

-- There are at most 4,000,000 bins.
abbrev pub is_small : BinGrid → Bool
is_small g =
    if nat_lt 4000000 g.columns then false
    else if nat_lt 4000000 g.rows then false
    else nat_le (g.columns * g.rows) 4000000

-- The bins over the core of the frame. None if a row is higher than 200,000,000, or there are more
-- than 4,000,000 bins: then the density is not measured.
abbrev pub grid_of : Frame → Option BinGrid
grid_of f =
    if nat_lt 200000000 (unsigned_abs f.pitch.y) then None
    else if is_small (grid_over (core_box f) (unsigned_abs f.pitch.y))
    then Some (grid_over (core_box f) (unsigned_abs f.pitch.y)) else None

-- The numbers of a grid are small.
pub record IsSmallGrid (g : BinGrid) : Type 0 where
  pub positive : 0 < g.side
  pub short : g.side ≤ 1000000000
  pub few_columns : g.columns ≤ 4000000
  pub few_rows : g.rows ≤ 4000000
  pub few : g.columns * g.rows ≤ 4000000

-- ---- areas in bins

-- A number, or the greatest one of 64 bits: areas and sums end there.
abbrev pub capped : ℕ → ℕ
capped n = min n 18446744073709551615

-- The length that the range from a to b shares with the range from c to d.
abbrev pub shared : ℕ → ℕ → ℕ → ℕ → ℕ
shared a b c d = min b d - max a c

-- The length that the range from a to b shares with the part of this number, of all parts of this
-- length.
abbrev pub shared_with : ℕ → ℕ → ℕ → ℕ → ℕ
shared_with part a b number = shared a b (number * part) (number * part + part)

-- The area that the box shares with the bin in this column and row.
abbrev pub area_in : BinGrid → ℕ → ℕ → Rect → ℕ
area_in g column row box =
    shared_with g.side (past g.left box.x1) (past g.left box.x2) column
    * shared_with g.side (past g.bottom box.y1) (past g.bottom box.y2) row

-- The area of the boxes in the bin in this column and row.
abbrev pub bin_area : BinGrid → List Rect → ℕ → ℕ → ℕ
bin_area g boxes column row = capped (sum (map (area_in g column row) boxes))

-- The area of the boxes in each bin: row by row, and in each from left to right.
abbrev pub bin_areas : BinGrid → List Rect → List ℕ
bin_areas g boxes = map (λ k. bin_area g boxes (k % g.columns) (k / g.columns)) (range_with_len 0 (g.columns * g.rows))
