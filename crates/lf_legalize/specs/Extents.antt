-- Places by their distance from a target.
use Rattle.std.specs.Prelude.{◌≡◌, ◌⊎◌, ℕ, ℤ, pos, negsuc, ◌≤◌, ◌≤ℤ◌, ◌+◌, ◌-ℤ◌, Option, Some, IfSome, List, Any, slice_get, min}
use Rattle.std.specs.Int.RustNames.{unsigned_abs}
use Rattle.std.specs.Option.{option_map_or}
use Rattle.lf_units.specs.declared.geometry.Point.{Point}
use Rattle.lf_units.specs.declared.geometry.Rect.{Rect}
use Rattle.lf_floorplan.specs.declared.frame.Frame.{Frame}
use Rattle.lf_floorplan.specs.declared.parts.Row.{Row}
use Rattle.lf_floorplan.specs.Sizes.{box_at}
use Rattle.lf_floorplan.specs.RowSupport.{IsBottomRow}
use Rattle.lf_rules.specs.Choice.{SpotPlace, PlacementQuery, Precedes, distance}
use Rattle.lf_rules.specs.Scanning.{ScansPlaces, IsAsGood}
use Rattle.lf_segments.specs.declared.rows_by_y.RowEntry.{RowEntry}

-- the value of a range that is nearest to another value: the distance of each value of the range
-- from the other value is its distance from the nearest one plus that of the nearest one
pub record IsNearestIn (lo hi value nearest : ℤ) : Type 0 where
  pub low : lo ≤ℤ nearest
  pub high : nearest ≤ℤ hi
  pub apart : (v : ℤ) → lo ≤ℤ v → v ≤ℤ hi
      → unsigned_abs (v -ℤ value) ≡ unsigned_abs (v -ℤ nearest) + unsigned_abs (nearest -ℤ value)

-- the point of the rectangle that is nearest to another
pub record IsNearestPoint (extent : Rect) (target nearest : Point) : Type 0 where
  pub across : IsNearestIn extent.x1 extent.x2 target.x nearest.x
  pub up : IsNearestIn extent.y1 extent.y2 target.y nearest.y

-- a coordinate that is near those of DEF
pub record IsNearDef (v : ℤ) : Type 0 where
  pub low : negsuc 2147483647 ≤ℤ v
  pub high : v ≤ℤ pos 22147483647

-- both coordinates are near those of DEF
pub record IsNearDefPoint (p : Point) : Type 0 where
  pub across : IsNearDef p.x
  pub up : IsNearDef p.y

-- the distance of the place from the target is at most `reach`
abbrev pub IsWithin : Point → ℕ → SpotPlace → Type 0
IsWithin target reach p = distance target p ≤ reach

-- the greatest distance from the target of a place that is as good as the best one so far, or
-- better
abbrev pub search_limit : Point → ℕ → Option SpotPlace → ℕ
search_limit target reach best = option_map_or (λ b. min (distance target b) reach) best reach

-- at this place a box of this size has the row of this number as its bottom row
pub record IsOnRow (f : Frame) (size : Point) (number : ℕ) (p : SpotPlace) : Type 0 where
  pub row : Row
  pub there : slice_get f.rows number ≡ Some row
  pub bottom : IsBottomRow f (box_at size p.x p.y) row

-- at this place a box of this size has the row of one of the entries as its bottom row
abbrev pub IsOnEntries : Frame → Point → List RowEntry → SpotPlace → Type 0
IsOnEntries f size entries p = Any (λ e. IsOnRow f size e.row p) entries

-- from the best place so far to the one after comparison with the seen places within `reach`; if
-- the old one is within `reach`, so is the new one
pub record ScansPlacesWithin (Seen : SpotPlace → Type 0) (cell : PlacementQuery) (target : Point) (reach : ℕ)
    (old new : Option SpotPlace) : Type 0 where
  pub looked : ScansPlaces (λ p. IsWithin target reach p × Seen p) cell target old new
  pub near : IfSome old (IsWithin target reach) → IfSome new (IsWithin target reach)

-- the better of the best place so far and this one: this one if it precedes, or if there is no best
-- place so far
abbrev pub IsBetter : Point → Option SpotPlace → SpotPlace → Option SpotPlace → Type 0
IsBetter target best p new = ((new ≡ Some p) × IfSome best (λ b. Precedes target p b))
    ⊎ ((new ≡ best) × IsAsGood target best p)
