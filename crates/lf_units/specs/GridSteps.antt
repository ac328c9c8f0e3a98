-- Results of the steps of the search for the nearest grid number.
use Rattle.std.specs.Prelude.{◌≡◌, ◌⊎◌, ℤ, pos, negsuc, ◌+ℤ◌, ◌-ℤ◌, ◌≤ℤ◌, ◌<ℤ◌}
use Rattle.lf_units.specs.declared.span.Span.{Span}
use Rattle.lf_units.specs.declared.grid.SiteGrid.{SiteGrid}
use Rattle.lf_units.specs.Grids.{IsGrid, IsOnGrid}

-- The absolute value is at most 2^42.
pub record IsSmall (v : ℤ) : Type 0 where
  pub low : negsuc 4398046511103 ≤ℤ v
  pub high : v ≤ℤ pos 4398046511104

-- A grid, and a number small enough to be rounded to it.
pub record CanBeRounded (g : SiteGrid) (at : ℤ) : Type 0 where
  pub grid : IsGrid g
  pub small : IsSmall at

-- The nearer of two numbers around a target; the left one if they are equally near.
abbrev pub IsNearer : ℤ → ℤ → ℤ → ℤ → Type 0
IsNearer left right target x =
    ((x ≡ left) × ((target -ℤ left) ≤ℤ (right -ℤ target))) ⊎ ((x ≡ right) × ((right -ℤ target) <ℤ (target -ℤ left)))

-- The first and the last grid number at which the width may lie in the span.
pub record AreEnds (span : Span) (g : SiteGrid) (width first last : ℤ) : Type 0 where
  pub rising : pos 0 <ℤ g.step
  pub first_on : IsOnGrid g first
  pub first_in : span.lo ≤ℤ first
  pub first_near : (first -ℤ g.step) <ℤ span.lo
  pub last_on : IsOnGrid g last
  pub last_in : (last +ℤ width) ≤ℤ span.hi
  pub last_near : (span.hi -ℤ width) <ℤ (last +ℤ g.step)
