-- Results of the steps of the search for the nearest gap.
use Rattle.std.specs.Prelude.{◌≡◌, ℤ, pos, ◌+ℤ◌, ◌≤ℤ◌, ◌<ℤ◌, ◌<◌, ◌⊎◌, List, All, Option, IfSome, IsSomeAnd}
use Rattle.lf_units.specs.declared.span.Span.{Span}
use Rattle.lf_units.specs.declared.grid.SiteGrid.{SiteGrid}
use Rattle.lf_units.specs.Grids.{FindsNearest, FitsSpan, IsBounded, IsBoundedSpan, IsGrid, IsNoFarther, distance_to}
use Rattle.lf_units.specs.Spans.{IsRising}
use Rattle.lf_gaps.specs.declared.gap_target.GapTarget.{GapTarget}
use Rattle.lf_gaps.specs.declared.row.Target.{Target}

-- A width above 0, and a target. The absolute values of both are at most 2^40.
pub record IsWanted (wanted : Target) : Type 0 where
  pub some : pos 0 <ℤ wanted.width
  pub width : IsBounded wanted.width
  pub target : IsBounded wanted.target

-- Rising spans, a grid, a width and a target, all of them bounded.
pub record IsGapSearch (spans : List Span) (g : SiteGrid) (sought : Target) : Type 0 where
  pub grid : IsGrid g
  pub rising : IsRising spans
  pub bounded : All IsBoundedSpan spans
  pub wanted : IsWanted sought

-- One of the two options, and no farther from the target than either.
pub record IsNearerOf (a b : Option ℤ) (target : ℤ) (found : Option ℤ) : Type 0 where
  pub from : (found ≡ a) ⊎ (found ≡ b)
  pub first : IfSome a (λ x. IsSomeAnd found (λ z. IsNoFarther target z x))
  pub second : IfSome b (λ x. IsSomeAnd found (λ z. IsNoFarther target z x))

-- There is a best number so far, nearer than each number from the start of the span on.
abbrev pub IsPast : Span → Option ℤ → ℤ → Type 0
IsPast span best target = IsSomeAnd best (λ x. (y : ℤ) → span.lo ≤ℤ y → distance_to target x < distance_to target y)

-- There is a best number so far, nearer than each number at which the width ends in the span or
-- left of it.
abbrev pub IsNearestSoFar : Span → Option ℤ → Target → Type 0
IsNearestSoFar span best wanted = IsSomeAnd best
    (λ x. (y : ℤ) → (y +ℤ wanted.width) ≤ℤ span.hi → distance_to wanted.target x < distance_to wanted.target y)

-- From the nearest number so far to the nearer of it and the nearest at which the width lies in the
-- gap.
pub record AddsGap (gap : Span) (wanted : GapTarget) (old new : Option ℤ) : Type 0 where
  pub next : Option ℤ
  pub nearest : FindsNearest (λ x. FitsSpan gap wanted.grid wanted.width x) wanted.target next
  pub nearer : IsNearerOf old next wanted.target new
