-- Where the segments of each row begin.
use Rattle.std.specs.Prelude.{◌≡◌, ℕ, ◌<◌, ◌≤◌, List, All, AllPairs, length, map, slice_index_or}
use Rattle.std.specs.List.Sorted.{IsNonDecreasingBy}
use Rattle.lf_units.specs.Spans.{IsFilled}
use Rattle.lf_segments.specs.declared.segment.Segment.{Segment}
use Rattle.lf_segments.specs.Segments.{ComesBefore}

-- The rows of segments.
abbrev pub rows_of : List Segment → List ℕ
rows_of segments = map (λ g. g.row) segments

-- The first n of the rows are earlier than this one, and the rest are not.
pub record IsStartOf (rows : List ℕ) (row n : ℕ) : Type 0 where
  pub within : n ≤ length rows
  pub earlier : (k d : ℕ) → k < n → slice_index_or rows k d < row
  pub rest : (k d : ℕ) → n ≤ k → k < length rows → row ≤ slice_index_or rows k d

-- For each row the number of earlier ones. Each row of the list has an entry.
pub record AreRowStarts (rows starts : List ℕ) : Type 0 where
  pub each : (r d : ℕ) → r < length starts → IsStartOf rows r (slice_index_or starts r d)
  pub all : All (λ r. r < length starts) rows

-- Segments in order of rows, each of a row below a number.
pub record AreOfRows (segments : List Segment) (rows : ℕ) : Type 0 where
  pub order : IsNonDecreasingBy (λ g. g.row) segments
  pub known : All (λ g. g.row < rows) segments

-- Filled segments in order, and the starts of their rows.
pub record HaveRowStarts (segments : List Segment) (starts : List ℕ) : Type 0 where
  pub order : AllPairs ComesBefore segments
  pub filled : All (λ g. IsFilled g.span) segments
  pub starts_of : AreRowStarts (rows_of segments) starts

-- The positions from start on and below end are exactly those of this row.
pub record IsRangeOf (rows : List ℕ) (row start end : ℕ) : Type 0 where
  pub order : start ≤ end
  pub within : end ≤ length rows
  pub before : (k d : ℕ) → k < start → slice_index_or rows k d < row
  pub inside : (k d : ℕ) → start ≤ k → k < end → slice_index_or rows k d ≡ row
  pub after_it : (k d : ℕ) → end ≤ k → k < length rows → row < slice_index_or rows k d
