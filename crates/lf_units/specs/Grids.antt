-- The nearest grid number at which a width fits a span.
use Rattle.std.specs.Prelude.{◌≡◌, ◌⊎◌, ℕ, ℤ, pos, negsuc, ◌<◌, ◌+ℤ◌, ◌-ℤ◌, ◌*ℤ◌, ◌≤ℤ◌, ◌<ℤ◌, Option, MatchOption, unsigned_abs}
use Rattle.lf_units.specs.declared.span.Span.{Span}
use Rattle.lf_units.specs.declared.grid.SiteGrid.{SiteGrid}

-- The absolute value is at most 2^40.
pub record IsBounded (v : ℤ) : Type 0 where
  pub low : negsuc 1099511627775 ≤ℤ v
  pub high : v ≤ℤ pos 1099511627776

-- The absolute values of both ends are at most 2^40.
pub record IsBoundedSpan (s : Span) : Type 0 where
  pub low : IsBounded s.lo
  pub high : IsBounded s.hi

-- A grid of bounded numbers whose step is above 0.
pub record IsGrid (g : SiteGrid) : Type 0 where
  pub origin : IsBounded g.origin
  pub rising : pos 0 <ℤ g.step
  pub step : g.step ≤ℤ pos 1099511627776

-- The grid of this origin and step.
abbrev pub grid_of : ℤ → ℤ → SiteGrid
grid_of origin step = record { origin = origin; step = step }

-- x is a whole number of steps from the grid's origin: `left` steps right of x is `right` steps
-- right of the origin.
pub record IsOnGrid (g : SiteGrid) (x : ℤ) : Type 0 where
  pub left : ℕ
  pub right : ℕ
  pub level : (x +ℤ (pos left *ℤ g.step)) ≡ (g.origin +ℤ (pos right *ℤ g.step))

-- The width, placed from x on, lies in the span.
pub record LiesInSpanFrom (span : Span) (width x : ℤ) : Type 0 where
  pub low : span.lo ≤ℤ x
  pub high : (x +ℤ width) ≤ℤ span.hi

-- The width fits the span at this grid number.
pub record FitsSpan (span : Span) (g : SiteGrid) (width x : ℤ) : Type 0 where
  pub on_grid : IsOnGrid g x
  pub within : LiesInSpanFrom span width x

-- The distance of x from the target.
abbrev pub distance_to : ℤ → ℤ → ℕ
distance_to target x = unsigned_abs (x -ℤ target)

-- x is nearer to the target than y, or equally near and not right of y.
abbrev pub IsNoFarther : ℤ → ℤ → ℤ → Type 0
IsNoFarther target x y = (distance_to target x < distance_to target y)
    ⊎ ((distance_to target x ≡ distance_to target y) × (x ≤ℤ y))

-- x fits and is the nearest to the target; the lesser of two that are equally near.
pub record IsNearest (Fit : ℤ → Type 0) (target x : ℤ) : Type 0 where
  pub fit : Fit x
  pub least : (y : ℤ) → Fit y → IsNoFarther target x y

-- The nearest number that fits; `None` only if no number fits.
abbrev pub FindsNearest : (ℤ → Type 0) → ℤ → Option ℤ → Type 0
FindsNearest Fit target found = MatchOption found ((x : ℤ) → Fit x → ⊥) (λ x. IsNearest Fit target x)
