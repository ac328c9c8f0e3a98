-- Rectangles as sets of whole points: what they cover is defined by points, not by comparing edges.
use Rattle.std.specs.Prelude.{ℤ, ◌≤ℤ◌, ◌<ℤ◌, List, Any}
use Rattle.lf_units.specs.declared.geometry.Rect.{Rect}

-- The point (x, y) lies in the rectangle: lower and left edges count, upper and right edges do not.
pub record Covers (r : Rect) (x y : ℤ) : Type 0 where
  pub left : r.x1 ≤ℤ x
  pub right : x <ℤ r.x2
  pub bottom : r.y1 ≤ℤ y
  pub top : y <ℤ r.y2

-- Two rectangles overlap: some point lies in both. Touching edges or corners are no overlap.
pub record SharesPoint (a b : Rect) : Type 0 where
  pub x : ℤ
  pub y : ℤ
  pub in_first : Covers a x y
  pub in_second : Covers b x y

-- The point lies in one of the rectangles.
abbrev pub CoveredBy : List Rect → ℤ → ℤ → Type 0
CoveredBy rects x y = Any (λ r. Covers r x y) rects
