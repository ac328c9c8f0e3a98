-- The contents of strips: the boxes of teams' cells, and what they leave free.
use Rattle.std.specs.Prelude.{◌≡◌, ◌≢◌, ◌⊎◌, ◌↔◌, ℕ, ◌+◌, ℤ, pos, ◌*ℤ◌, ◌≤ℤ◌, ◌≤◌, Bool, false, ◌&&◌, int_lt, length, List}
use Rattle.std.specs.Prelude.{[], Option, None, Some, Any, IsSomeAnd, MatchOption, count_by, option_and_then, slice_get, slice_index_or, slice_set}
use Rattle.std.specs.Int.{int_max, int_min}
use Rattle.lf_units.specs.declared.geometry.Rect.{Rect}
use Rattle.lf_units.specs.Area.{Covers, SharesPoint}
use Rattle.lf_units.specs.declared.span.Span.{Span}
use Rattle.lf_units.specs.Spans.{IsFilled, IsRising, LiesIn, LiesInOneOf}
use Rattle.lf_segments.specs.declared.strip.Strip.{Strip}
use Rattle.lf_segments.specs.Indexes.{FrameIndexView}
use Rattle.lf_rules.specs.Padding.{wider}
use Rattle.lf_cells.specs.declared.cell.CellId.{CellId}

-- the frame's index, the width of a core site, for each team the boxes of its cells in loading
-- order, and for each strip how many boxes it has room for
pub record Occupied : Type 0 where
  pub index : FrameIndexView
  pub site : ℤ
  pub boxes : List (List (Option Rect))
  pub rooms : List ℕ

-- the greatest padding as a length: 16 core sites
abbrev pub reach : Occupied → ℤ
reach o = pos 16 *ℤ o.site

-- the length is from 0 up to the greatest padding
pub record IsPaddingOf (o : Occupied) (padding : ℤ) : Type 0 where
  pub least : pos 0 ≤ℤ padding
  pub most : padding ≤ℤ reach o

-- the boxes of a team's cells; empty if there is no such team
abbrev pub boxes_of : Occupied → ℕ → List (Option Rect)
boxes_of o team = slice_index_or o.boxes team []

-- the box at this position; None if the cell has no box, or there is no such position
abbrev pub cell_box : List (Option Rect) → ℕ → Option Rect
cell_box boxes own = option_and_then (λ box. box) (slice_get boxes own)

-- the box of the team's cell at this position; None if it is unplaced, or there is no such cell
abbrev pub box_in_team : Occupied → ℕ → ℕ → Option Rect
box_in_team o team own = cell_box (boxes_of o team) own

-- the boxes, with this one for the cell
abbrev pub boxes_with : Occupied → CellId → Option Rect → List (List (Option Rect))
boxes_with o id box = slice_set o.boxes id.team (slice_set (boxes_of o id.team) id.own box)

-- the x range of a strip
abbrev pub strip_extent : Strip → Span
strip_extent g = record { lo = g.area.x1; hi = g.area.x2 }

-- the strip widened by the length on its left and on its right
abbrev pub widened : ℤ → Strip → Strip
widened by g = record { row = g.row; team = g.team; area = wider by g.area }

-- the part of a strip that lies over a span
abbrev pub part_over : Strip → Span → Rect
part_over g s = record { x1 = s.lo; y1 = g.area.y1; x2 = s.hi; y2 = g.area.y2 }

-- another cell of the cell's team has this box
pub record IsOther (o : Occupied) (id : CellId) (own : ℕ) (box : Rect) : Type 0 where
  pub other : own ≢ id.own
  pub is_in_place : box_in_team o id.team own ≡ Some box

-- no other placed cell of the cell's team shares a point with the rectangle
abbrev pub IsClearOfOthers : Occupied → CellId → Rect → Type 0
IsClearOfOthers o id rect = (own : ℕ) (box : Rect) → IsOther o id own box → SharesPoint rect box → ⊥

-- the cell at this position has a box, which, widened by the padding, shares no point with another
-- cell's box
pub record OverlapsNoBox (boxes : List (Option Rect)) (padding : ℤ) (own : ℕ) : Type 0 where
  pub box : Rect
  pub is : cell_box boxes own ≡ Some box
  pub clear : (other : ℕ) (near : Rect) → other ≢ own → cell_box boxes other ≡ Some near
      → SharesPoint (wider padding box) near → ⊥

-- the strip is of this row and team
pub record IsStripOf (row team : ℕ) (g : Strip) : Type 0 where
  pub in_row : g.row ≡ row
  pub of_team : g.team ≡ team

-- the span lies in the strip, and no other cell of the team is over it or nearer to it than the
-- padding
pub record IsFreeOver (o : Occupied) (id : CellId) (padding : ℤ) (g : Strip) (s : Span) : Type 0 where
  pub within : LiesIn s (strip_extent g)
  pub clear : IsClearOfOthers o id (wider padding (part_over g s))

-- the spans of a row, within a window, that are free for a cell, as if the cell itself were
-- unplaced: a span that holds a number lies in one of them if and only if it lies in the window and
-- is free in one strip of the row and the cell's team
pub record IsFreeInRow (o : Occupied) (row : ℕ) (id : CellId) (window : Span) (padding : ℤ)
    (free : List Span) : Type 0 where
  pub rising : IsRising free
  pub exact : (s : Span) → IsFilled s →
      (LiesInOneOf free s
      ↔ (LiesIn s window × Any (λ g. IsStripOf row id.team g × IsFreeOver o id padding g s) o.index.strips))

-- the team's cell at this position, which is not `without`, has this box
pub record HasBoxExcept (o : Occupied) (without : CellId) (team own : ℕ) (box : Rect) : Type 0 where
  pub other : team ≡ without.team → own ≢ without.own
  pub is_in_place : box_in_team o team own ≡ Some box

-- the span lies in the strip, and no cell of the strip's team except `without` is over it or nearer
-- to it than the padding
pub record IsLeftOver (o : Occupied) (without : CellId) (padding : ℤ) (g : Strip) (s : Span) : Type 0 where
  pub within : LiesIn s (strip_extent g)
  pub clear : (own : ℕ) (box : Rect) → HasBoxExcept o without g.team own box
      → SharesPoint (wider padding (part_over g s)) box → ⊥

-- the free spans of one strip, without one cell: a span that holds a number lies in one of them if
-- and only if it lies in the strip and no other cell of the strip's team is over it or nearer to it
-- than the padding; there are no spans if there is no such strip
pub record AreFreeSpans (o : Occupied) (segment : ℕ) (without : CellId) (padding : ℤ) (free : List Span) : Type 0 where
  pub rising : IsRising free
  pub exact : (s : Span) → IsFilled s →
      (LiesInOneOf free s ↔ IsSomeAnd (slice_get o.index.strips segment) (λ g. IsLeftOver o without padding g s))

-- another placed cell of the team shares with the rectangle a point of one of the team's strips,
-- widened by the reach
pub record OverlapsInStrips (o : Occupied) (id : CellId) (rect : Rect) (own : ℕ) : Type 0 where
  pub box : Rect
  pub is : IsOther o id own box
  pub x : ℤ
  pub y : ℤ
  pub in_strip : Any (λ g. (g.team ≡ id.team) × Covers (wider (reach o) g.area) x y) o.index.strips
  pub in_rect : Covers rect x y
  pub in_box : Covers box x y

-- the first of the cells that overlap in this sense; None if no cell does
abbrev pub IsFirstOverlappingCell : Occupied → CellId → Rect → Option ℕ → Type 0
IsFirstOverlappingCell o id rect overlapping_one =
    MatchOption overlapping_one ((own : ℕ) → OverlapsInStrips o id rect own → ⊥)
    (λ own. OverlapsInStrips o id rect own × ((other : ℕ) → OverlapsInStrips o id rect other → own ≤ other))

-- whether the box exists and shares a point with the strip's area, by the edges
abbrev pub does_overlap : Strip → Option Rect → Bool
does_overlap g None = false
does_overlap g (Some r) =
    int_lt (int_max g.area.x1 r.x1) (int_min g.area.x2 r.x2) && int_lt (int_max g.area.y1 r.y1) (int_min g.area.y2 r.y2)

-- how many of the boxes share a point with the strip's area
abbrev pub count_in : Strip → List (Option Rect) → ℕ
count_in g boxes = count_by (does_overlap g) boxes

-- these boxes of the team's cells fit: each strip of the team has room for all of them that share a
-- point with it, widened by the reach
abbrev pub FitIn : Occupied → ℕ → List (Option Rect) → Type 0
FitIn o team boxes =
    (n : ℕ) (g : Strip) → slice_get o.index.strips n ≡ Some g → g.team ≡ team
    → count_in (widened (reach o) g) boxes ≤ slice_index_or o.rooms n 0

-- the counts, a number for each strip, bound these boxes of the team's cells: for no strip of the
-- team is the count less than the number of boxes that share a point with the strip, widened by the
-- reach
abbrev pub Bounds : Occupied → ℕ → List (Option Rect) → List ℕ → Type 0
Bounds o team boxes tally =
    (n : ℕ) (g : Strip) → slice_get o.index.strips n ≡ Some g → g.team ≡ team
    → count_in (widened (reach o) g) boxes ≤ slice_index_or tally n 0

-- each strip of the team that, widened by the reach, shares a point with the rectangle has room for
-- its boxes and `more` others
abbrev pub HasRoomFor : Occupied → ℕ → Rect → ℕ → Type 0
HasRoomFor o team rect more =
    (n : ℕ) (g : Strip) → slice_get o.index.strips n ≡ Some g → g.team ≡ team
    → SharesPoint (widened (reach o) g).area rect →
    (count_in (widened (reach o) g) (boxes_of o team) + more) ≤ slice_index_or o.rooms n 0

-- the first boxes are part of the others: each is None or equal to the other list's box
abbrev pub ArePartOf : List (Option Rect) → List (Option Rect) → Type 0
ArePartOf part whole = (own : ℕ) → (cell_box part own ≡ None) ⊎ (cell_box part own ≡ cell_box whole own)

-- the lists have the same length, and no number of the new one is less
pub record KeepsCapacities (old new : List ℕ) : Type 0 where
  pub many : length new ≡ length old
  pub each : (n : ℕ) → slice_index_or old n 0 ≤ slice_index_or new n 0
