-- The results of lookups, defined by the frame alone.
use Rattle.std.specs.Prelude.{◌≡◌, ℕ, ℤ, List, [], Some, None, slice_get}
use Rattle.lf_units.specs.declared.span.Span.{Span}
use Rattle.lf_floorplan.specs.declared.frame.Frame.{Frame}
use Rattle.lf_segments.specs.declared.rows_by_y.RowEntry.{RowEntry}
use Rattle.lf_segments.specs.declared.segment.Segment.{Segment}
use Rattle.lf_segments.specs.Indexes.{AreSoftSpans}
use Rattle.lf_segments.specs.RowsByY.{IsRowsByY, IsRunAt, IsRunBetween}
use Rattle.lf_segments.specs.Segments.{IsCut}

-- The entries of the frame's rows at this y, in order of x.
pub record AreRowsAt (f : Frame) (y : ℤ) (run : List RowEntry) : Type 0 where
  pub entries : List RowEntry
  pub rows : IsRowsByY f entries
  pub part : IsRunAt entries y run

-- The entries of the frame's rows from one y on and below another, in order of y and then of x.
pub record AreRowsBetween (f : Frame) (from to : ℤ) (run : List RowEntry) : Type 0 where
  pub entries : List RowEntry
  pub rows : IsRowsByY f entries
  pub part : IsRunBetween entries from to run

-- The soft spans of the segment with this number in the frame's only list of segments; empty if
-- there is no such segment.
pub record IsSoftOf (f : Frame) (number : ℕ) (spans : List Span) : Type 0 where
  pub there : (segments : List Segment) (g : Segment) → IsCut f segments → slice_get segments number ≡ Some g
      → AreSoftSpans f g spans
  pub past : (segments : List Segment) → IsCut f segments → slice_get segments number ≡ None → spans ≡ []
