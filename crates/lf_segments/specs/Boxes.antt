-- The boxes of a frame's fences and obstacles, with numbers: a fence's rectangle has the fence's
-- number, an obstacle the ground team's.
use Rattle.std.specs.Prelude.{◌≡◌, ◌⊎◌, ◌↔◌, ℕ, ◌+◌, ◌<◌, ◌≤◌, ℤ, ◌≤ℤ◌, ◌<ℤ◌, List, [], ◌∷◌, ◌++◌, map, length, All, AllPairs, Any, Contains}
use Rattle.std.specs.List.Sorted.{IsNonDecreasingBy}
use Rattle.lf_units.specs.declared.geometry.Rect.{Rect}
use Rattle.lf_units.specs.Area.{Covers, SharesPoint}
use Rattle.lf_units.specs.declared.span.Span.{Span}
use Rattle.lf_units.specs.Spans.{HoldsNumber, IsFilled, IsRising, LiesInOneOf, HeldByOne}
use Rattle.lf_units.specs.declared.placed.Placed.{Placed}
use Rattle.lf_floorplan.specs.declared.frame.Frame.{Frame}
use Rattle.lf_floorplan.specs.declared.parts.Row.{Row}
use Rattle.lf_floorplan.specs.declared.parts.Team.{Team}
use Rattle.lf_floorplan.specs.Rows.{IsCoreRow, row_area}
use Rattle.lf_floorplan.specs.Ground.{InGround}
use Rattle.lf_segments.specs.declared.segment.Segment.{Segment}
use Rattle.lf_segments.specs.Segments.{IsClearAt, IsOpen, LiesInSegment, ComesFirst}

-- A rectangle with a number.
abbrev pub placed_with_number : ℕ → Rect → Placed
placed_with_number own rect = record { own = own; rect = rect }

-- The rectangles of fences, each with its fence's number; the first fence has the number `own`.
abbrev pub fence_boxes : ℕ → List Team → List Placed
fence_boxes own [] = []
fence_boxes own (t ∷ teams) = map (placed_with_number own) t.rects ++ fence_boxes (own + 1) teams

-- The rectangles of the fences, and then the obstacles.
abbrev pub frame_boxes : Frame → List Placed
frame_boxes f = fence_boxes 0 f.teams ++ map (placed_with_number (length f.teams)) f.obstacles

-- The point lies in a box of this number.
abbrev pub IsOverlappedAt : List Placed → ℕ → ℤ → ℤ → Type 0
IsOverlappedAt boxes own x y = Any (λ p. (p.own ≡ own) × Covers p.rect x y) boxes

-- The boxes determine which fences cover the point and whether one of the obstacles does.
pub record DetermineCover (f : Frame) (obstacles : List Rect) (boxes : List Placed) (x y : ℤ) : Type 0 where
  pub fence : (team : ℕ) → team < length f.teams → (InGround f team x y ↔ IsOverlappedAt boxes team x y)
  pub obstacle : Any (λ r. Covers r x y) obstacles ↔ IsOverlappedAt boxes (length f.teams) x y

-- Boxes that share a point with the row, and determine the fences and these obstacles at each of
-- its points.
pub record AreBoxesOf (f : Frame) (obstacles : List Rect) (r : Row) (boxes : List Placed) : Type 0 where
  pub known : All (λ p. p.own ≤ length f.teams) boxes
  pub near : All (λ p. SharesPoint (row_area f.pitch r) p.rect) boxes
  pub report_it : (x y : ℤ) → Covers (row_area f.pitch r) x y → DetermineCover f obstacles boxes x y

-- Boxes in order of their numbers.
abbrev pub AreSorted : List Placed → Type 0
AreSorted boxes = IsNonDecreasingBy (λ p. p.own) boxes

-- A core row, and the boxes near it in order of their numbers.
pub record AreRowBoxes (f : Frame) (obstacles : List Rect) (r : Row) (near : List Placed) : Type 0 where
  pub core_ones : IsCoreRow f.pitch r
  pub boxes : AreBoxesOf f obstacles r near
  pub sorted : AreSorted near

-- The boxes of the least number that is not below this one; empty if all are below.
pub record IsNextGroup (boxes : List Placed) (least : ℕ) (group : List Placed) : Type 0 where
  pub among : All (λ p. Contains boxes p × (least ≤ p.own)) group
  pub one : All (λ p. All (λ q. q.own ≡ p.own) group) group
  pub others : All (λ p. (p.own < least) ⊎ (Contains group p ⊎ Any (λ q. q.own < p.own) group)) boxes

-- The x range of a rectangle.
abbrev pub x_extent : Rect → Span
x_extent r = record { lo = r.x1; hi = r.x2 }

-- The spans hold exactly the x that the boxes cover at this y.
abbrev pub AreSpansAt : List Placed → ℤ → List Span → Type 0
AreSpansAt boxes y spans = (x : ℤ) → (HeldByOne spans x ↔ Any (λ p. Covers p.rect x y) boxes)

-- The boxes cover the whole span at this y.
abbrev pub AreUnder : List Placed → ℤ → Span → Type 0
AreUnder boxes y s = (x : ℤ) → HoldsNumber s x → Any (λ p. Covers p.rect x y) boxes

-- The parts of the free spans that the boxes cover at this y.
pub record IsCoveredAt (boxes : List Placed) (y : ℤ) (free covered : List Span) : Type 0 where
  pub rising : IsRising covered
  pub exact : (s : Span) → IsFilled s → (LiesInOneOf covered s ↔ (LiesInOneOf free s × AreUnder boxes y s))

-- The parts of the free spans that the boxes cover at each y from the lower one on and below the
-- upper one.
pub record IsCoveredOver (boxes : List Placed) (lower upper : ℤ) (free covered : List Span) : Type 0 where
  pub rising : IsRising covered
  pub exact : (s : Span) → IsFilled s
      → (LiesInOneOf covered s ↔ (LiesInOneOf free s × ((y : ℤ) → lower ≤ℤ y → y <ℤ upper → AreUnder boxes y s)))

-- A span as a segment of a row and a team.
abbrev pub segment_of : ℕ → ℕ → Span → Segment
segment_of row team s = record { row = row; team = team; span = s }

-- The row's segments of the teams below a number.
pub record IsCutOfRow (f : Frame) (obstacles : List Rect) (number : ℕ) (r : Row) (limit : ℕ)
    (segments : List Segment) : Type 0 where
  pub known : All (λ g. (g.row ≡ number) × ((g.team < limit) × IsFilled g.span)) segments
  pub in_order : AllPairs ComesFirst segments
  pub exact : (team : ℕ) (s : Span) → team < limit → IsFilled s
      → (LiesInSegment segments number team s ↔ ((x : ℤ) → HoldsNumber s x → IsOpen f obstacles r team x))

-- The maximal spans of a row that are clear of obstacles.
pub record AreClear (f : Frame) (obstacles : List Rect) (r : Row) (spans : List Span) : Type 0 where
  pub rising : IsRising spans
  pub exact : (s : Span) → IsFilled s → (LiesInOneOf spans s ↔ ((x : ℤ) → HoldsNumber s x → IsClearAt f obstacles r x))

-- The maximal spans of a row that the team may use.
pub record AreOpen (f : Frame) (obstacles : List Rect) (r : Row) (team : ℕ) (spans : List Span) : Type 0 where
  pub rising : IsRising spans
  pub exact : (s : Span) → IsFilled s
      → (LiesInOneOf spans s ↔ ((x : ℤ) → HoldsNumber s x → IsOpen f obstacles r team x))

-- The row's segments of the teams below a number are appended.
pub record AddsRow (f : Frame) (obstacles : List Rect) (number : ℕ) (r : Row) (limit : ℕ)
    (old new : List Segment) : Type 0 where
  pub added : List Segment
  pub is : new ≡ old ++ added
  pub cut : IsCutOfRow f obstacles number r limit added
