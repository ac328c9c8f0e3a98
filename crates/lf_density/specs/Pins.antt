-- How many pins the fullest bins of a design have.
use Rattle.std.specs.Prelude.{◌≡◌, ◌==◌, ℕ, ℤ, ◌+◌, ◌*◌, ◌/◌, Bool, false, if◌then◌else◌, List, [], Option, Some, None, MatchOption, int_lt, map, nat_lt, slice_index, slice_set}
use Rattle.std.specs.List.{count_by, range_with_len}
use Rattle.std.specs.List.Sorted.{IsNonDecreasing, IsPermutation}
use Rattle.std.specs.Option.{option_and_then, option_map, option_map_or}
use Rattle.lf_units.specs.declared.geometry.Point.{Point}
use Rattle.lf_floorplan.specs.declared.frame.Frame.{Frame}
use Rattle.lf_density.specs.declared.grid.BinGrid.{BinGrid}
use Rattle.lf_density.specs.declared.pins.PinDensity.{PinDensity}
use Rattle.lf_density.specs.Bins.{capped, grid_of, past}
use Rattle.lf_density.specs.Density.{mean_of_fullest}

-- ---- pins in bins

-- The number of the part that contains the coordinate, of as many parts of this length from the edge
-- on. A part contains its lower end and not its upper one. None if no part contains the coordinate.
abbrev pub part_at : ℤ → ℕ → ℕ → ℤ → Option ℕ
part_at edge part parts z =
    if int_lt z edge then None
    else if nat_lt (past edge z / part) parts then Some (past edge z / part) else None

-- The number of the bin that contains the point: row by row, and in each from left to right. None if
-- no bin contains it.
abbrev pub bin_at : BinGrid → Point → Option ℕ
bin_at g p =
    option_and_then (λ column. option_map (λ row. row * g.columns + column) (part_at g.bottom g.side g.rows p.y))
    (part_at g.left g.side g.columns p.x)

-- The bin of this number contains the point.
abbrev pub is_in_bin : BinGrid → ℕ → Point → Bool
is_in_bin g number p = option_map_or (λ bin. bin == number) (bin_at g p) false

-- The number of points in the bin of this number.
abbrev pub bin_count : BinGrid → List Point → ℕ → ℕ
bin_count g points number = capped (count_by (is_in_bin g number) points)

-- The number of points in each bin.
abbrev pub bin_counts : BinGrid → List Point → List ℕ
bin_counts g points = map (bin_count g points) (range_with_len 0 (g.columns * g.rows))

-- The numbers of points with one more in this bin.
abbrev pub with_point : Option ℕ → List ℕ → List ℕ
with_point None counts = counts
with_point (Some number) counts = slice_set counts number (capped (slice_index counts number + 1))

-- ---- the fullest bins

-- The pin density of bins with these numbers of pins, in rising order.
abbrev pub pin_density_by : List ℕ → PinDensity
pin_density_by rising = record {
  fullest_2 = mean_of_fullest rising 2;
  fullest_5 = mean_of_fullest rising 5;
  fullest_10 = mean_of_fullest rising 10;
  fullest_20 = mean_of_fullest rising 20;
}

-- The pin density of pins at these points over these bins.
pub record IsPinDensityIn (g : BinGrid) (points : List Point) (d : PinDensity) : Type 0 where
  pub rising : List ℕ
  pub same : IsPermutation (bin_counts g points) rising
  pub rise : IsNonDecreasing rising
  pub is : d ≡ pin_density_by rising

-- The pin density of a frame whose bins are not measured.
abbrev pub no_pin_density : PinDensity
no_pin_density = pin_density_by []

-- The pin density of pins at these points on the frame.
abbrev pub IsPinDensityOf : Frame → List Point → PinDensity → Type 0
IsPinDensityOf f points d = MatchOption (grid_of f) (d ≡ no_pin_density) (λ g. IsPinDensityIn g points d)
