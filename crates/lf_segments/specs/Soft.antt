-- Soft spans of strips; and lists of spans that are concatenated in one list.
use Rattle.std.specs.Prelude.{◌≡◌, ◌↔◌, ℕ, ℤ, ◌<◌, ◌≤◌, List, [], ◌∷◌, All, Any, length, map, slice_index_or, slice_range}
use Rattle.std.specs.List.Sorted.{IsNonDecreasingBy}
use Rattle.lf_units.specs.declared.geometry.Rect.{Rect}
use Rattle.lf_units.specs.Area.{Covers}
use Rattle.lf_units.specs.declared.span.Span.{Span}
use Rattle.lf_units.specs.Spans.{HoldsNumber, IsFilled, IsRising, LiesIn, LiesInOneOf}
use Rattle.lf_units.specs.declared.placed.Placed.{Placed}
use Rattle.lf_floorplan.specs.declared.frame.Frame.{Frame}
use Rattle.lf_segments.specs.declared.strip.Strip.{Strip}
use Rattle.lf_segments.specs.Boxes.{x_extent, placed_with_number}

-- The lists that begin at these positions; each ends where the next one begins.
abbrev pub lists_from : List Span → List ℕ → List (List Span)
lists_from spans [] = []
lists_from spans (start ∷ starts) =
    slice_range spans start (slice_index_or starts 0 (length spans)) ∷ lists_from spans starts

-- Positions in the list of spans, in order.
pub record AreStarts (spans : List Span) (starts : List ℕ) : Type 0 where
  pub order : IsNonDecreasingBy (λ n. n) starts
  pub within : All (λ n. n ≤ length spans) starts

-- The soft blockages as boxes with the same number.
abbrev pub soft_boxes : Frame → List Placed
soft_boxes f = map (placed_with_number 0) f.soft

-- A point of the area with this x lies in a soft blockage.
pub record IsSoftAt (f : Frame) (area : Rect) (x : ℤ) : Type 0 where
  pub y : ℤ
  pub covers : Covers area x y
  pub soft : Any (λ r. Covers r x y) f.soft

-- The maximal spans of the area's x range that the x ranges of the boxes cover.
pub record AreOverlappedSpans (area : Rect) (boxes : List Placed) (spans : List Span) : Type 0 where
  pub rising : IsRising spans
  pub exact : (s : Span) → IsFilled s →
      (LiesInOneOf spans s
      ↔ (LiesIn s (x_extent area) × ((x : ℤ) → HoldsNumber s x → Any (λ p. HoldsNumber (x_extent p.rect) x) boxes)))

-- The maximal spans of the area's x range at which a point of it lies in a soft blockage.
pub record AreSoftIn (f : Frame) (area : Rect) (spans : List Span) : Type 0 where
  pub rising : IsRising spans
  pub exact : (s : Span) → IsFilled s
      → (LiesInOneOf spans s ↔ (LiesIn s (x_extent area) × ((x : ℤ) → HoldsNumber s x → IsSoftAt f area x)))

-- The soft spans of each strip.
pub record AreSoftOver (f : Frame) (strips : List Strip) (soft : List (List Span)) : Type 0 where
  pub many : length soft ≡ length strips
  pub each : (n : ℕ) (d : Strip) → n < length strips
      → AreSoftIn f (slice_index_or strips n d).area (slice_index_or soft n [])
