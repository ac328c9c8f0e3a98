-- Cells of one row's height in one free span of a row, counted in sites from the span's first one.
use Rattle.std.specs.Prelude.{◌≡◌, ℕ, ◌+◌, ◌-◌, ◌≤◌, List, All, AllPairs, map, sum_by}
use Rattle.lf_repair_planner.specs.declared.packed_cell.PackedCell.{PackedCell}

-- a span of `room` sites, and the cells in it from left to right
pub record Packing : Type 0 where
  pub room : ℕ
  pub cells : List PackedCell

-- the total width of the cells, in sites
abbrev pub total_width : List PackedCell → ℕ
total_width cells = sum_by (λ c. c.width) cells

-- the displacement of a cell from its target, in sites
abbrev pub site_displacement : PackedCell → ℕ
site_displacement c = (c.at - c.wanted) + (c.wanted - c.at)

-- the total displacement of the cells from their targets, in sites
abbrev pub total_site_displacement : List PackedCell → ℕ
total_site_displacement cells = sum_by site_displacement cells

-- the cells are between the two sites, each right of the previous ones, and no two share a site
pub record IsPackedWithin (start end : ℕ) (cells : List PackedCell) : Type 0 where
  pub from : All (λ c. start ≤ c.at) cells
  pub within : All (λ c. c.at + c.width ≤ end) cells
  pub apart : AllPairs (λ c d. c.at + c.width ≤ d.at) cells

-- the cells are packed in a span of `room` sites
abbrev pub IsPacked : ℕ → List PackedCell → Type 0
IsPacked room cells = IsPackedWithin 0 room cells

-- a cell without its current site
pub record CellShape : Type 0 where
  pub number : ℕ
  pub width : ℕ
  pub wanted : ℕ
  pub offset : ℕ
  pub reach : ℕ

abbrev pub shape : PackedCell → CellShape
shape c = record { number = c.number; width = c.width; wanted = c.wanted; offset = c.offset; reach = c.reach }

-- the same cells in the same order, wherever they are
abbrev pub AreSameCells : List PackedCell → List PackedCell → Type 0
AreSameCells old new = map shape old ≡ map shape new

-- the cell at the site of another one
abbrev pub at_place_of : PackedCell → PackedCell → PackedCell
at_place_of other c = record {
  number = c.number;
  width = c.width;
  wanted = c.wanted;
  offset = c.offset;
  reach = c.reach;
  at = other.at;
}
