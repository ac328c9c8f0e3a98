-- The marks of all strips, and how they change.
use Rattle.std.specs.Prelude.{◌≡◌, ◌≢◌, ◌↔◌, ℕ, ◌<◌, ℤ, pos, ◌*ℤ◌, ◌≤ℤ◌, ◌<ℤ◌, List, length, All, Any, IfSome, IsSomeAnd, slice_get}
use Rattle.std.specs.Prelude.{◌⊎◌, Option, None, Some, map, slice_index_or, slice_set, [], ◌∷◌}
use Rattle.std.specs.Int.{int_max}
use Rattle.std.specs.Vec.{vec_capacity}
use Rattle.lf_cells.specs.declared.cell.CellId.{CellId}
use Rattle.lf_units.specs.declared.geometry.Rect.{Rect}
use Rattle.lf_units.specs.Area.{SharesPoint}
use Rattle.lf_units.specs.declared.span.Span.{Span}
use Rattle.lf_units.specs.Spans.{IsFilled, IsRising, LiesIn, LiesInOneOf, IsDisjointFrom}
use Rattle.lf_segments.specs.declared.rows_by_y.RowEntry.{RowEntry}
use Rattle.lf_segments.specs.declared.strip.Strip.{Strip}
use Rattle.lf_segments.specs.Strips.{IsNear}
use Rattle.lf_occupancy.specs.declared.strip_marks.StripMarks.{StripMarks}
use Rattle.lf_segments.specs.Indexes.{FrameIndexView}
use Rattle.lf_occupancy.specs.MarkLists.{AreRising, HasAtMostOne, HasRoomOf, EntryIsInside, KeepsMarksOf, ShowsBoxes, IsMarked, IsOrderly, IsUnmarked, IsPutIn, OverlapsOne, StripView}
use Rattle.lf_occupancy.specs.MarkLists.{TakesPart, all_padded, others_in, strip_view, spans_in}
use Rattle.lf_occupancy.specs.Views.{HasRoomFor, Occupied, strip_extent, cell_box, widened}

-- the width of a core site of a frame
pub record IsSiteWidth (site : ℤ) : Type 0 where
  pub wide : pos 0 <ℤ site
  pub small : site ≤ℤ pos 20000000000

-- the strips widened by 16 core sites of this width
abbrev pub widened_strips : ℤ → List Strip → List Strip
widened_strips site strips = map (widened (pos 16 *ℤ site)) strips

-- the strip of this number is of the team, and an entry of the cell in it overlaps the rectangle
pub record OverlapsAt (strips : List Strip) (mark_lists : List StripView) (team : ℕ) (rect : Rect)
    (but own n : ℕ) : Type 0 where
  pub within : n < length strips
  pub of_team : (d : Strip) → (slice_index_or strips n d).team ≡ team
  pub does_overlap : (d : StripView) → OverlapsOne (slice_index_or mark_lists n d).entries rect but own

-- the cell overlaps the rectangle in a strip of the row
abbrev pub OverlapsInRow : List Strip → List StripView → ℕ → ℕ → Rect → ℕ → ℕ → Type 0
OverlapsInRow strips mark_lists row team rect but own =
    (n : ℕ) × ((d : Strip) → (slice_index_or strips n d).row ≡ row) × OverlapsAt strips mark_lists team rect but own n

-- the cell overlaps the rectangle in a strip
abbrev pub OverlapsInOne : List Strip → List StripView → ℕ → Rect → ℕ → ℕ → Type 0
OverlapsInOne strips mark_lists team rect but own = (n : ℕ) × OverlapsAt strips mark_lists team rect but own n

-- the entries of each strip are in order and lie in the strip
pub record AreOrderly (strips : List Strip) (mark_lists : List StripView) : Type 0 where
  pub many : length mark_lists ≡ length strips
  pub each : (n : ℕ) (e : StripView) → n < length strips → IsOrderly (slice_index_or mark_lists n e)
  pub inside : (n : ℕ) (d : Strip) (e : StripView) → n < length strips →
      All (EntryIsInside (slice_index_or strips n d).area) (slice_index_or mark_lists n e).entries

-- the entries of each strip are those of its team's boxes
pub record AreShown (strips : List Strip) (boxes : List (List (Option Rect)))
    (mark_lists : List StripView) : Type 0 where
  pub many : length mark_lists ≡ length strips
  pub each : (n : ℕ) (d : Strip) (e : StripView) → n < length strips →
      ShowsBoxes (slice_index_or boxes (slice_index_or strips n d).team []) (slice_index_or strips n d).area
      (slice_index_or mark_lists n e)

-- the entries of all strips, given the boxes of teams' cells
abbrev pub strip_views : List Strip → List (List (Option Rect)) → List StripMarks → List StripView
strip_views [] boxes mark_lists = []
strip_views (g ∷ strips) boxes [] = []
strip_views (g ∷ strips) boxes (l ∷ mark_lists) =
    strip_view (slice_index_or boxes g.team []) g.area l ∷ strip_views strips boxes mark_lists

-- the marks of each strip are those of its team's boxes
pub record ShowAllBoxes (strips : List Strip) (boxes : List (List (Option Rect)))
    (mark_lists : List StripMarks) : Type 0 where
  pub many : length mark_lists ≡ length strips
  pub each : (n : ℕ) (d : Strip) (e : StripMarks) → n < length strips →
      IsMarked (slice_index_or boxes (slice_index_or strips n d).team []) (slice_index_or strips n d).area
      (slice_index_or mark_lists n e)

-- the span lies in the strip of this number, which is of the row and the team, and shares no number
-- with another cell's entry widened by the padding
pub record LiesFree (strips : List Strip) (mark_lists : List StripView) (row team own : ℕ) (padding : ℤ) (s : Span)
    (n : ℕ) : Type 0 where
  pub within : n < length strips
  pub in_row : (d : Strip) → (slice_index_or strips n d).row ≡ row
  pub of_team : (d : Strip) → (slice_index_or strips n d).team ≡ team
  pub inside : (d : Strip) → LiesIn s (strip_extent (slice_index_or strips n d))
  pub apart : (d : StripView)
      → IsDisjointFrom (spans_in (others_in (all_padded padding (slice_index_or mark_lists n d).entries) own)) s

-- a span that holds a number lies in a free one if and only if it lies in the window and is free in
-- a strip numbered below the limit
pub record AreFreeTo (strips : List Strip) (mark_lists : List StripView) (row team own : ℕ) (window : Span)
    (padding : ℤ) (limit : ℕ)
    (free : List Span) : Type 0 where
  pub rising : IsRising free
  pub exact : (s : Span) → IsFilled s →
      (LiesInOneOf free s
      ↔ (LiesIn s window × ((n : ℕ) × ((n < limit) × LiesFree strips mark_lists row team own padding s n))))

-- the strip of this number is of one of the rows and the team, and its x range overlaps that of the
-- rectangle
abbrev pub IsReached : List Strip → List RowEntry → ℕ → Rect → ℕ → Type 0
IsReached strips rows team rect n = (n < length strips)
    × Any (λ r. (d : Strip) → IsNear r.row team rect.x1 rect.x2 (slice_index_or strips n d)) rows

-- the strip of this number is of the row and the team, and its x range overlaps that of the
-- rectangle
abbrev pub IsReachedIn : List Strip → ℕ → ℕ → Rect → ℕ → Type 0
IsReachedIn strips row team rect n = (n < length strips)
    × ((d : Strip) → IsNear row team rect.x1 rect.x2 (slice_index_or strips n d))

-- the elements at the chosen positions are changed as `Change` says, and the others are the same
pub record AreChanged {X : Type 0} (Chosen : ℕ → Type 0) (Change : ℕ → X → X → Type 0) (old new : List X) : Type 0 where
  pub many : length new ≡ length old
  pub chosen : (n : ℕ) (e : X) → n < length old → Chosen n → Change n (slice_index_or old n e) (slice_index_or new n e)
  pub others : (n : ℕ) (e : X) → n < length old → (Chosen n → ⊥) → slice_index_or new n e ≡ slice_index_or old n e

-- each strip keeps its marks, and has no less room
pub record KeepMarksOf (old new : List StripMarks) : Type 0 where
  pub many : length new ≡ length old
  pub each : (n : ℕ) (e : StripMarks) → n < length old → KeepsMarksOf (slice_index_or old n e) (slice_index_or new n e)

-- the strip's part of the cell's box is marked
abbrev pub PutsIn : List Strip → ℕ → Rect → ℕ → StripMarks → StripMarks → Type 0
PutsIn strips own rect n old new = (d : Strip) → IsPutIn own rect (slice_index_or strips n d).area old new

-- a cell with this id exists
pub record HasCell (boxes : List (List (Option Rect))) (id : CellId) : Type 0 where
  pub team : id.team < length boxes
  pub own : id.own < length (slice_index_or boxes id.team [])

-- the boxes of all teams, with this one for the cell
abbrev pub boxes_set : List (List (Option Rect)) → CellId → Option Rect → List (List (Option Rect))
boxes_set boxes id box = slice_set boxes id.team (slice_set (slice_index_or boxes id.team []) id.own box)

-- a cell with this id exists, and has no box or this box
pub record HasBoxOrNone (boxes : List (List (Option Rect))) (id : CellId) (rect : Rect) : Type 0 where
  pub known : HasCell boxes id
  pub at : (cell_box (slice_index_or boxes id.team []) id.own ≡ None)
      ⊎ (cell_box (slice_index_or boxes id.team []) id.own ≡ Some rect)

-- a cell with this id exists, and has no box
pub record HasNoBox (boxes : List (List (Option Rect))) (id : CellId) : Type 0 where
  pub known : HasCell boxes id
  pub at : cell_box (slice_index_or boxes id.team []) id.own ≡ None

-- the strip of this number is of the team, and shares a point with the rectangle
abbrev pub OverlapsStrip : List Strip → ℕ → Rect → ℕ → Type 0
OverlapsStrip strips team rect n = IsSomeAnd (slice_get strips n) (λ g. (g.team ≡ team) × SharesPoint g.area rect)

-- the chosen strips have room for `more` marks each
abbrev pub HaveRoom : (ℕ → Type 0) → ℕ → List StripMarks → Type 0
HaveRoom Chosen more mark_lists = (n : ℕ) (e : StripMarks) → Chosen n → HasRoomOf more (slice_index_or mark_lists n e)

-- the chosen strips have room for the parts of the rectangle that lie in them
abbrev pub CanTake : List Strip → Rect → (ℕ → Type 0) → List StripMarks → Type 0
CanTake strips rect Chosen mark_lists =
    (n : ℕ) (d : Strip) (e : StripMarks) → Chosen n
    → TakesPart (slice_index_or strips n d).area rect (slice_index_or mark_lists n e)

-- in each of the chosen strips the cell has at most one mark, which begins at the left edge of the
-- part of the rectangle in the strip
abbrev pub HaveAtMostOne : List Strip → ℕ → Rect → (ℕ → Type 0) → List StripMarks → Type 0
HaveAtMostOne strips own rect Chosen mark_lists =
    (n : ℕ) (d : Strip) (e : StripMarks) → Chosen n
    → HasAtMostOne own (int_max (slice_index_or strips n d).area.x1 rect.x1) (slice_index_or mark_lists n e)

-- the strip of this number is of the team
pub record IsOfTeam (strips : List Strip) (team n : ℕ) : Type 0 where
  pub within : n < length strips
  pub of_team : (d : Strip) → (slice_index_or strips n d).team ≡ team

-- there is a list of marks for each strip, and each is in order
pub record HasRisingMarks (strips : List Strip) (mark_lists : List StripMarks) : Type 0 where
  pub many : length mark_lists ≡ length strips
  pub rising : All (λ l. AreRising l.marks.items) mark_lists

-- there is a list of marks for each strip, and in each strip of its team a cell with this box has at most one mark
pub record HasOneMark (strips : List Strip) (id : CellId) (rect : Rect) (mark_lists : List StripMarks) : Type 0 where
  pub many : length mark_lists ≡ length strips
  pub one : HaveAtMostOne strips id.own rect (IsOfTeam strips id.team) mark_lists

-- there is a list of marks for each strip, and in each strip of a row that the cell's box reaches,
-- the cell has at most one mark
pub record HasOneMarkInRow (strips : List Strip) (row : ℕ) (id : CellId) (rect : Rect)
    (mark_lists : List StripMarks) : Type 0 where
  pub many : length mark_lists ≡ length strips
  pub one : HaveAtMostOne strips id.own rect (IsReachedIn strips row id.team rect) mark_lists

-- there is a list of marks for each strip, and in each strip of the given rows that the cell's box
-- reaches, the cell has at most one mark
pub record HasOneMarkInRows (strips : List Strip) (rows : List RowEntry) (id : CellId) (rect : Rect)
    (mark_lists : List StripMarks) : Type 0 where
  pub many : length mark_lists ≡ length strips
  pub one : HaveAtMostOne strips id.own rect (IsReached strips rows id.team rect) mark_lists

-- the cell's marks are removed from the strips of a row that its box reaches
abbrev pub PruneInRow : List Strip → ℕ → CellId → Rect → List StripMarks → List StripMarks → Type 0
PruneInRow strips row id rect old new =
    AreChanged (IsReachedIn strips row id.team rect) (λ n. IsUnmarked id.own) old new

-- the cell's marks are removed from the strips of the given rows that its box reaches
abbrev pub PruneInRows : List Strip → List RowEntry → CellId → Rect → List StripMarks → List StripMarks → Type 0
PruneInRows strips rows id rect old new =
    AreChanged (IsReached strips rows id.team rect) (λ n. IsUnmarked id.own) old new

-- there is a list of marks for each strip, and the strips of a row that the cell's box reaches have
-- room for its parts
pub record CanTakeInRow (strips : List Strip) (row : ℕ) (id : CellId) (rect : Rect)
    (mark_lists : List StripMarks) : Type 0 where
  pub many : length mark_lists ≡ length strips
  pub room : CanTake strips rect (IsReachedIn strips row id.team rect) mark_lists

-- there is a list of marks for each strip, and the strips of the given rows that the cell's box
-- reaches have room for its parts
pub record CanTakeInRows (strips : List Strip) (rows : List RowEntry) (id : CellId) (rect : Rect)
    (mark_lists : List StripMarks) : Type 0 where
  pub many : length mark_lists ≡ length strips
  pub room : CanTake strips rect (IsReached strips rows id.team rect) mark_lists

-- the cell's parts are marked in the strips of a row that its box reaches
abbrev pub PutInRow : List Strip → ℕ → CellId → Rect → List StripMarks → List StripMarks → Type 0
PutInRow strips row id rect old new =
    AreChanged (IsReachedIn strips row id.team rect) (PutsIn strips id.own rect) old new

-- the cell's parts are marked in the strips of the given rows that its box reaches
abbrev pub PutInRows : List Strip → List RowEntry → CellId → Rect → List StripMarks → List StripMarks → Type 0
PutInRows strips rows id rect old new =
    AreChanged (IsReached strips rows id.team rect) (PutsIn strips id.own rect) old new

-- the number of marks that each strip has room for
abbrev pub capacities_in : List StripMarks → List ℕ
capacities_in mark_lists = map (λ l. vec_capacity l.marks) mark_lists

-- the span lies in the strip of this number, and shares no number with an entry there widened by
-- the padding, except those of the cell `without` if it is of the strip's team
pub record IsLeftFree (strips : List Strip) (mark_lists : List StripView) (without : CellId) (padding : ℤ) (n : ℕ)
    (s : Span) : Type 0 where
  pub within : n < length strips
  pub inside : (d : Strip) → LiesIn s (strip_extent (slice_index_or strips n d))
  pub own : (d : Strip) (e : StripView) → (slice_index_or strips n d).team ≡ without.team →
      IsDisjointFrom (spans_in (others_in (all_padded padding (slice_index_or mark_lists n e).entries) without.own)) s
  pub foreign : (d : Strip) (e : StripView) → (slice_index_or strips n d).team ≢ without.team →
      IsDisjointFrom (spans_in (all_padded padding (slice_index_or mark_lists n e).entries)) s

-- a span that holds a number lies in one of the free ones if and only if it is free in the strip of
-- this number
pub record AreFreeSpansOfStrip (strips : List Strip) (mark_lists : List StripView) (without : CellId) (padding : ℤ)
    (n : ℕ) (free : List Span) : Type 0 where
  pub rising : IsRising free
  pub exact : (s : Span) → IsFilled s → (LiesInOneOf free s ↔ IsLeftFree strips mark_lists without padding n s)

-- for the box of each of the moves, the strips of the cell's team that share a point with it have
-- room for `more` marks each
abbrev pub HaveRoomForAll : List Strip → List (CellId × Option Rect) → ℕ → List StripMarks → Type 0
HaveRoomForAll strips moves more mark_lists =
    All (λ m. IfSome m.1 (λ rect. HaveRoom (OverlapsStrip strips m.0.team rect) more mark_lists)) moves

-- what an occupancy keeps: the frame's index, the width of a core site, and the marks of each strip
pub record Marked : Type 0 where
  pub index : FrameIndexView
  pub site : ℤ
  pub mark_lists : List StripMarks

-- there is a list of marks for each strip
pub record HasStripMarks (m : Marked) : Type 0 where
  pub site : IsSiteWidth m.site
  pub many : length m.mark_lists ≡ length (widened_strips m.site m.index.strips)

-- the marks are those of the given boxes of all teams' cells in the strips, widened by 16 core
-- sites
abbrev pub MarksBoxes : Marked → List (List (Option Rect)) → Type 0
MarksBoxes m boxes = ShowAllBoxes (widened_strips m.site m.index.strips) boxes m.mark_lists

-- what is kept, with the boxes that it marks
abbrev pub with_boxes : Marked → List (List (Option Rect)) → Occupied
with_boxes m boxes = record { index = m.index; site = m.site; boxes = boxes; rooms = capacities_in m.mark_lists }

-- the marks are those of some boxes, in which the cell has no box or this box
pub record CanLeave (m : Marked) (id : CellId) (rect : Rect) : Type 0 where
  pub boxes : List (List (Option Rect))
  pub holds : MarksBoxes m boxes
  pub is : HasBoxOrNone boxes id rect

-- the marks are those of some boxes, in which the cell has no box, and each strip of its team that,
-- widened, shares a point with the rectangle has room for one more
pub record CanEnter (m : Marked) (id : CellId) (rect : Rect) : Type 0 where
  pub boxes : List (List (Option Rect))
  pub holds : MarksBoxes m boxes
  pub nowhere : HasNoBox boxes id
  pub room : HasRoomFor (with_boxes m boxes) id.team rect 1
