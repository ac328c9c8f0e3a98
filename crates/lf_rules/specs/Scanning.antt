-- A scan of more and more places: the best place so far, and the places scanned.
use Rattle.std.specs.Prelude.{◌≡◌, ℕ, ◌<◌, pos, ◌+ℤ◌, ◌*ℤ◌, List, Option, Some, IfSome, MatchOption, slice_get}
use Rattle.lf_units.specs.declared.geometry.Point.{Point}
use Rattle.lf_orient.specs.declared.Orient.{Orient}
use Rattle.lf_floorplan.specs.declared.parts.Row.{Row}
use Rattle.lf_rules.specs.Choice.{SpotPlace, PlacementQuery, IsAllowedPlace, Precedes}

-- There is a best place so far, and this one does not precede it.
abbrev pub IsAsGood : Point → Option SpotPlace → SpotPlace → Type 0
IsAsGood target best p = MatchOption best ⊥ (λ b. Precedes target p b → ⊥)

-- The step from the best place so far to the one after these places are scanned too.
pub record ScansPlaces (Seen : SpotPlace → Type 0) (cell : PlacementQuery) (target : Point)
    (old new : Option SpotPlace) : Type 0 where
  pub may_go : IfSome old (λ b. IsAllowedPlace cell b) → IfSome new (λ b. IsAllowedPlace cell b)
  pub kept : (p : SpotPlace) → IsAsGood target old p → IsAsGood target new p
  pub seen : (p : SpotPlace) → Seen p → IsAllowedPlace cell p → IsAsGood target new p

-- The place is on this site of the row, in some orientation.
pub record IsAtSite (pitch : Point) (r : Row) (site : ℕ) (p : SpotPlace) : Type 0 where
  pub x_is : p.x ≡ r.x +ℤ (pos site *ℤ pitch.x)
  pub y_is : p.y ≡ r.y

-- The place is on one of the row's first sites.
pub record IsOnSites (pitch : Point) (r : Row) (sites : ℕ) (p : SpotPlace) : Type 0 where
  pub site : ℕ
  pub within : site < sites
  pub at_site : IsAtSite pitch r site p

-- The place is on a site of one of the first rows.
pub record IsOnRows (pitch : Point) (rows : List Row) (count : ℕ) (p : SpotPlace) : Type 0 where
  pub number : ℕ
  pub row : Row
  pub within : number < count
  pub there : slice_get rows number ≡ Some row
  pub on_sites : IsOnSites pitch row row.sites p

-- The place on this site, in this orientation.
abbrev pub spot_at : Point → Row → ℕ → Orient → SpotPlace
spot_at pitch r site orient = record { x = r.x +ℤ (pos site *ℤ pitch.x); y = r.y; orient = orient }
