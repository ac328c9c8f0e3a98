-- The density of a design: how full its fullest bins are (the average bin utilization of the ISPD
-- 2015 contest).
use Rattle.std.specs.Prelude.{◌≡◌, ℕ, ◌-◌, ◌*◌, ◌/◌, if◌then◌else◌, List, [], ◌∷◌, drop, flat_map, length, map, max, nat_lt, slice_index, sum}
use Rattle.std.specs.List.{range_with_len}
use Rattle.std.specs.List.Sorted.{IsNonDecreasing, IsPermutation}
use Rattle.std.specs.Prelude.{MatchOption}
use Rattle.lf_units.specs.declared.geometry.Rect.{Rect}
use Rattle.lf_floorplan.specs.declared.frame.Frame.{Frame}
use Rattle.lf_segments.specs.declared.segment.Segment.{Segment}
use Rattle.lf_segments.specs.Segments.{IsCut}
use Rattle.lf_segments.specs.Strips.{strip_of}
use Rattle.lf_density.specs.declared.density.Density.{Density}
use Rattle.lf_density.specs.declared.grid.BinGrid.{BinGrid}
use Rattle.lf_density.specs.Bins.{bin_areas, capped, grid_of}

-- The utilization of a bin of this area, in thousandths, rounded down. A bin counts if its usable
-- area is at least a fifth of its area; otherwise the list is empty.
abbrev pub utilization : ℕ → ℕ → ℕ → List ℕ
utilization area usable used = if nat_lt (usable * 5) area then [] else capped (used * 1000) / usable ∷ []

-- The utilization of each bin that counts, given the usable and the used area of
-- each bin.
abbrev pub utilizations : ℕ → List ℕ → List ℕ → List ℕ
utilizations area usable used =
    flat_map (λ k. utilization area (slice_index usable k) (slice_index used k)) (range_with_len 0 (length usable))

-- How many of these bins are the fullest ones: this many percent, rounded down, but at least one.
abbrev pub fullest_of : List ℕ → ℕ → ℕ
fullest_of rising percent = max (length rising * percent / 100) 1

-- The mean utilization of the fullest bins, rounded down, given the utilizations in rising order.
abbrev pub mean_of_fullest : List ℕ → ℕ → ℕ
mean_of_fullest rising percent =
    capped (sum (drop (length rising - fullest_of rising percent) rising)) / fullest_of rising percent

-- The density of bins with these utilizations, in rising order.
abbrev pub density_by : ℕ → List ℕ → Density
density_by side rising = record {
  bins = length rising;
  side = side;
  fullest_2 = mean_of_fullest rising 2;
  fullest_5 = mean_of_fullest rising 5;
  fullest_10 = mean_of_fullest rising 10;
  fullest_20 = mean_of_fullest rising 20;
}

-- The density of boxes over these bins, given the usable areas of rows.
pub record IsDensityIn (g : BinGrid) (usable boxes : List Rect) (d : Density) : Type 0 where
  pub rising : List ℕ
  pub same : IsPermutation (utilizations (g.side * g.side) (bin_areas g usable) (bin_areas g boxes)) rising
  pub rise : IsNonDecreasing rising
  pub is : d ≡ density_by g.side rising

-- The density of a frame whose bins are not measured.
abbrev pub no_density : Density
no_density = density_by 0 []

-- The areas of the usable spans of rows, of all teams.
abbrev pub usable_boxes : Frame → List Segment → List Rect
usable_boxes f segments = map (λ s. s.area) (map (strip_of f) segments)

-- The density of the boxes of placed cells on the frame.
abbrev pub IsDensityOf : Frame → List Rect → Density → Type 0
IsDensityOf f boxes d = (segments : List Segment) × IsCut f segments
    × MatchOption (grid_of f) (d ≡ no_density) (λ g. IsDensityIn g (usable_boxes f segments) boxes d)
