-- The index of a frame by position: its rows, the parts of them that each team may use, and the
-- soft blockages over those.
use Rattle.std.specs.Prelude.{◌≡◌, ◌↔◌, ℕ, ℤ, ◌≤ℤ◌, List, All, Some, length, map, slice_get, slice_index_or, []}
use Rattle.std.specs.Int.{int_max, int_min}
use Rattle.lf_units.specs.declared.geometry.Rect.{Rect}
use Rattle.lf_units.specs.declared.span.Span.{Span}
use Rattle.lf_units.specs.Spans.{HoldsNumber, IsFilled, IsRising, LiesIn, LiesInOneOf}
use Rattle.lf_floorplan.specs.Bounds.{IsNearDefRect}
use Rattle.lf_floorplan.specs.Rows.{row_area}
use Rattle.lf_floorplan.specs.declared.frame.Frame.{Frame}
use Rattle.lf_segments.specs.declared.segment.Segment.{Segment}
use Rattle.lf_segments.specs.declared.rows_by_y.RowEntry.{RowEntry}
use Rattle.lf_segments.specs.declared.strip.Strip.{Strip}
use Rattle.lf_segments.specs.RowsByY.{IsRowsByY}
use Rattle.lf_segments.specs.Segments.{IsCut, IsCutBeside}
use Rattle.lf_segments.specs.Soft.{IsSoftAt}
use Rattle.lf_segments.specs.Strips.{strip_of}

-- The index: the rows in order of y, the segments, the land, the strips, and the soft spans of each
-- segment. It also has the rectangle that holds all rows, and the height of a row.
pub record FrameIndexView : Type 0 where
  pub rows : List RowEntry
  pub segments : List Segment
  pub land : List Segment
  pub strips : List Strip
  pub soft : List (List Span)
  pub extent : Rect
  pub height : ℤ

-- No point of the inner rectangle lies outside the outer one.
pub record IsInside (inner outer : Rect) : Type 0 where
  pub left : outer.x1 ≤ℤ inner.x1
  pub lower : outer.y1 ≤ℤ inner.y1
  pub right : inner.x2 ≤ℤ outer.x2
  pub upper : inner.y2 ≤ℤ outer.y2

-- The rectangle holds all rows of the frame.
pub record IsExtentOf (f : Frame) (extent : Rect) : Type 0 where
  pub near : IsNearDefRect extent
  pub rows : All (λ r. IsInside (row_area f.pitch r) extent) f.rows

-- The smallest rectangle that holds both.
abbrev pub hull : Rect → Rect → Rect
hull a b = record { x1 = int_min a.x1 b.x1; y1 = int_min a.y1 b.y1; x2 = int_max a.x2 b.x2; y2 = int_max a.y2 b.y2 }

-- The maximal spans of a segment's numbers at which a point of its strip lies in a soft blockage.
pub record AreSoftSpans (f : Frame) (g : Segment) (spans : List Span) : Type 0 where
  pub rising : IsRising spans
  pub exact : (s : Span) → IsFilled s
      → (LiesInOneOf spans s ↔ (LiesIn s g.span × ((x : ℤ) → HoldsNumber s x → IsSoftAt f (strip_of f g).area x)))

-- The soft spans of each segment.
pub record AreSoft (f : Frame) (segments : List Segment) (soft : List (List Span)) : Type 0 where
  pub many : length soft ≡ length segments
  pub each : (n : ℕ) (g : Segment) → slice_get segments n ≡ Some g → AreSoftSpans f g (slice_index_or soft n [])

-- The index is that of the frame.
pub record IsIndexOf (f : Frame) (g : FrameIndexView) : Type 0 where
  pub rows : IsRowsByY f g.rows
  pub segments : IsCut f g.segments
  pub land : IsCutBeside f [] g.land
  pub strips : g.strips ≡ map (strip_of f) g.segments
  pub soft : AreSoft f g.segments g.soft
  pub extent : IsExtentOf f g.extent
  pub height : g.height ≡ f.pitch.y
