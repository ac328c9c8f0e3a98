-- A width that fits one span of each of several lists.
use Rattle.std.specs.Prelude.{ℤ, List, Option, All, Any}
use Rattle.lf_units.specs.declared.span.Span.{Span}
use Rattle.lf_units.specs.declared.grid.SiteGrid.{SiteGrid}
use Rattle.lf_units.specs.Grids.{FindsNearest, IsOnGrid, LiesInSpanFrom}
use Rattle.lf_gaps.specs.declared.gap_target.GapTarget.{GapTarget}

-- The width fits, at this grid number, one span of each list.
pub record FitsRows (lists : List (List Span)) (g : SiteGrid) (width x : ℤ) : Type 0 where
  pub on_grid : IsOnGrid g x
  pub within : All (λ spans. Any (λ s. LiesInSpanFrom s width x) spans) lists

-- The width fits, at this grid number, one span of the list.
pub record FitsOne (spans : List Span) (g : SiteGrid) (width x : ℤ) : Type 0 where
  pub on_grid : IsOnGrid g x
  pub within : Any (λ s. LiesInSpanFrom s width x) spans

-- The number nearest to the target at which the width fits one of the spans of a list, which is one
-- of these; `None` only if it fits none of them.
pub record FindsGap (Lists : List Span → Type 0) (wanted : GapTarget) (found : Option ℤ) : Type 0 where
  pub spans : List Span
  pub is : Lists spans
  pub nearest : FindsNearest (λ x. FitsOne spans wanted.grid wanted.width x) wanted.target found
