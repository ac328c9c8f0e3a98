-- The entries of one widened strip: one for the part of each cell's box that lies in it. The strip
-- keeps a mark of each. The entries follow from the marks and the boxes of its team's cells.
use Rattle.std.specs.Prelude.{◌≡◌, ◌≢◌, ◌⊎◌, ◌↔◌, ◌==◌, ℕ, ◌+◌, ◌<◌, ◌≤◌, ℤ, pos, negsuc}
use Rattle.std.specs.Prelude.{◌+ℤ◌, ◌-ℤ◌, ◌≤ℤ◌, ◌<ℤ◌, List, ◌++◌, map, filter, not, length, All, AllPairs, Any}
use Rattle.std.specs.Prelude.{Option, None, Some, IfSome, insert, IsSomeAnd, slice_index_or}
use Rattle.std.specs.Int.{int_max, int_min}
use Rattle.std.specs.Vec.{vec_len, vec_capacity}
use Rattle.lf_units.specs.declared.geometry.Rect.{Rect}
use Rattle.lf_units.specs.Area.{Covers, SharesPoint}
use Rattle.lf_units.specs.declared.span.Span.{Span}
use Rattle.lf_occupancy.specs.declared.strip_marks.Entry.{Entry}
use Rattle.lf_occupancy.specs.declared.strip_marks.StripMarks.{StripMarks}
use Rattle.lf_occupancy.specs.declared.strip_marks.Mark.{Mark}
use Rattle.lf_rules.specs.Padding.{wider}
use Rattle.lf_occupancy.specs.Views.{cell_box}

-- the x range of a rectangle
abbrev pub x_range : Rect → Span
x_range r = record { lo = r.x1; hi = r.x2 }

-- a point lies in the rectangle
pub record HasPoints (r : Rect) : Type 0 where
  pub wide : r.x1 <ℤ r.x2
  pub high : r.y1 <ℤ r.y2

-- the part of the first rectangle that the second one covers
pub record IsPart (a b part : Rect) : Type 0 where
  pub points : (x y : ℤ) → Covers part x y ↔ (Covers a x y × Covers b x y)
  pub left : a.x1 ≤ℤ part.x1
  pub right : part.x2 ≤ℤ a.x2

-- the same part, by the edges
abbrev pub part_in : Rect → Rect → Rect
part_in a b = record { x1 = int_max a.x1 b.x1; y1 = int_max a.y1 b.y1; x2 = int_min a.x2 b.x2; y2 = int_min a.y2 b.y2 }

-- the box; if there is no box, a rectangle without points
abbrev pub some_box : Option Rect → Rect
some_box None = record { x1 = pos 0; y1 = pos 0; x2 = pos 0; y2 = pos 0 }
some_box (Some box) = box

-- the entry of a cell for the part of its box that lies in the area
abbrev pub entry_of_box : Rect → Option Rect → ℕ → Entry
entry_of_box area box own = record { own = own; area = part_in area (some_box box) }

-- the entry of a mark in a strip with this area
abbrev pub marked_entry : List (Option Rect) → Rect → Mark → Entry
marked_entry cells area m = entry_of_box area (cell_box cells m.own) m.own

-- the entries of the marks
abbrev pub marked_entries : List (Option Rect) → Rect → List Mark → List Entry
marked_entries cells area marks = map (marked_entry cells area) marks

-- entries, and a bound on their width
pub record StripView : Type 0 where
  pub entries : List Entry
  pub widest : ℤ

-- the entries of a strip with this area, given the cells' boxes
abbrev pub strip_view : List (Option Rect) → Rect → StripMarks → StripView
strip_view cells area l = record { entries = marked_entries cells area l.marks.items; widest = l.widest }

-- the entry is the cell's, and holds the point
pub record HoldsPoint (own : ℕ) (x y : ℤ) (e : Entry) : Type 0 where
  pub is : e.own ≡ own
  pub covers : Covers e.area x y

-- the point lies in the rectangle and in the box of the cell
pub record LiesInBox (cells : List (Option Rect)) (area : Rect) (own : ℕ) (x y : ℤ) : Type 0 where
  pub box : Rect
  pub is : cell_box cells own ≡ Some box
  pub in_area : Covers area x y
  pub in_box : Covers box x y

-- entries in the order of their left edges
abbrev pub AreInOrder : List Entry → Type 0
AreInOrder entries = AllPairs (λ a b. a.area.x1 ≤ℤ b.area.x1) entries

-- marks in the order of their left edges
abbrev pub AreRising : List Mark → Type 0
AreRising marks = AllPairs (λ a b. a.left ≤ℤ b.left) marks

-- the entries are in order, and no entry is wider than the widest
pub record IsOrderly (l : StripView) : Type 0 where
  pub order : AreInOrder l.entries
  pub wide : All (λ e. (e.area.x2 -ℤ e.area.x1) ≤ℤ l.widest) l.entries
  pub some : pos 0 ≤ℤ l.widest
  pub most : l.widest ≤ℤ pos 1099511627776

-- the entry lies in the area
pub record EntryIsInside (area : Rect) (e : Entry) : Type 0 where
  pub left : area.x1 ≤ℤ e.area.x1
  pub bottom : area.y1 ≤ℤ e.area.y1
  pub right : e.area.x2 ≤ℤ area.x2
  pub top : e.area.y2 ≤ℤ area.y2

-- each point of the area that lies in a cell's box is in an entry of the cell, entries hold no
-- other point, and no cell has two entries
pub record ShowsBoxes (cells : List (Option Rect)) (area : Rect) (l : StripView) : Type 0 where
  pub orderly : IsOrderly l
  pub whole : All (λ e. HasPoints e.area) l.entries
  pub inside : All (EntryIsInside area) l.entries
  pub held : (own : ℕ) (x y : ℤ) → LiesInBox cells area own x y → Any (HoldsPoint own x y) l.entries
  pub reported : All (λ e. (x y : ℤ) → Covers e.area x y → LiesInBox cells area e.own x y) l.entries
  pub once : AllPairs (λ a b. a.own ≢ b.own) l.entries

-- the mark has the entry's left edge and its width, which is no less than 0
pub record MarkIsOf (e : Entry) (m : Mark) : Type 0 where
  pub left : m.left ≡ e.area.x1
  pub width : m.width ≡ (e.area.x2 -ℤ e.area.x1)
  pub some : pos 0 ≤ℤ m.width

-- each of the marks is that of its entry
abbrev pub MarksAreOf : List (Option Rect) → Rect → List Mark → Type 0
MarksAreOf cells area marks = All (λ m. MarkIsOf (marked_entry cells area m) m) marks

-- the marks are exactly those of the cells' boxes in this area, and each is that of its entry
pub record IsMarked (cells : List (Option Rect)) (area : Rect) (l : StripMarks) : Type 0 where
  pub mark_list : ShowsBoxes cells area (strip_view cells area l)
  pub reported : MarksAreOf cells area l.marks.items

-- the run of entries near a range: the entries in front of the run end no later than the range
-- begins, and those after it begin no earlier than the range ends
pub record IsNearRun (entries : List Entry) (lo hi : ℤ) (near : List Entry) : Type 0 where
  pub before : List Entry
  pub after_it : List Entry
  pub parts : entries ≡ before ++ (near ++ after_it)
  pub left : All (λ e. e.area.x2 ≤ℤ lo) before
  pub right : All (λ e. hi ≤ℤ e.area.x1) after_it

-- the entries in front of this position end at x or to the left of it
abbrev pub EndUpTo : List Entry → ℕ → ℤ → Type 0
EndUpTo entries n x = (k : ℕ) (d : Entry) → k < n → k < length entries → (slice_index_or entries k d).area.x2 ≤ℤ x

-- the entries of all other cells
abbrev pub others_in : List Entry → ℕ → List Entry
others_in entries own = filter (λ e. not (e.own == own)) entries

-- the marks of all other cells
abbrev pub marks_but : List Mark → ℕ → List Mark
marks_but marks own = filter (λ m. not (m.own == own)) marks

-- the range and the x range of the rectangle have no number in common
abbrev pub LiesBeside : Span → Rect → Type 0
LiesBeside s r = (s.hi ≤ℤ r.x1) ⊎ (r.x2 ≤ℤ s.lo)

-- the range widened by a length on its left and on its right
abbrev pub wider_range : ℤ → Span → Span
wider_range by s = record { lo = s.lo -ℤ by; hi = s.hi +ℤ by }

-- the spans of entries
abbrev pub spans_in : List Entry → List Span
spans_in entries = map (λ e. x_range e.area) entries

-- the entry widened by a length on its left and on its right
abbrev pub widened_entry : ℤ → Entry → Entry
widened_entry by e = record { own = e.own; area = wider by e.area }

-- the entries, each widened by this length
abbrev pub all_padded : ℤ → List Entry → List Entry
all_padded by entries = map (widened_entry by) entries

-- the entry is the cell's, the cell is not `but`, and the entry shares a point with the rectangle
pub record OverlapsEntry (rect : Rect) (but own : ℕ) (e : Entry) : Type 0 where
  pub is : e.own ≡ own
  pub other : own ≢ but
  pub does_overlap : SharesPoint rect e.area

-- an entry of the list is the cell's, which is not `but`, and shares a point with the rectangle
abbrev pub OverlapsOne : List Entry → Rect → ℕ → ℕ → Type 0
OverlapsOne entries rect but own = Any (OverlapsEntry rect but own) entries

-- the least number exists and is at most this one
abbrev pub IsAtMostOwn : Option ℕ → ℕ → Type 0
IsAtMostOwn least own = IsSomeAnd least (λ n. n ≤ own)

-- the least of the number so far and of the numbers with the property
pub record IsLeast (P : ℕ → Type 0) (so_far least : Option ℕ) : Type 0 where
  pub from : (least ≡ so_far) ⊎ IsSomeAnd least P
  pub no_greater : IfSome so_far (IsAtMostOwn least)
  pub each : (own : ℕ) → P own → IsAtMostOwn least own

-- the marks are in order, the cell has at most one mark, and that is at `left`
pub record HasAtMostOne (own : ℕ) (left : ℤ) (l : StripMarks) : Type 0 where
  pub order : AreRising l.marks.items
  pub once : AllPairs (λ a b. a.own ≢ b.own) l.marks.items
  pub begins : All (λ m. m.own ≡ own → m.left ≡ left) l.marks.items

-- the mark at this position is the cell's
pub record IsMarkOfCell (marks : List Mark) (own n : ℕ) : Type 0 where
  pub within : n < length marks
  pub is : (d : Mark) → (slice_index_or marks n d).own ≡ own

-- no mark from this position on is the cell's
abbrev pub HasNoMarkFrom : List Mark → ℕ → ℕ → Type 0
HasNoMarkFrom marks own from = (k : ℕ) (d : Mark) → from ≤ k → k < length marks → (slice_index_or marks k d).own ≢ own

-- the strip without the cell's marks
pub record IsUnmarked (own : ℕ) (old new : StripMarks) : Type 0 where
  pub marks : new.marks.items ≡ marks_but old.marks.items own
  pub widest : new.widest ≡ old.widest
  pub fewer : vec_len new.marks ≤ vec_len old.marks
  pub room : vec_capacity new.marks ≡ vec_capacity old.marks

-- the strip keeps its marks, and has no less room
pub record KeepsMarksOf (old new : StripMarks) : Type 0 where
  pub marks : new.marks.items ≡ old.marks.items
  pub widest : new.widest ≡ old.widest
  pub many : vec_len new.marks ≡ vec_len old.marks
  pub room : vec_capacity old.marks ≤ vec_capacity new.marks

-- the strip has room for one more mark
abbrev pub HasRoom : StripMarks → Type 0
HasRoom l = vec_len l.marks < vec_capacity l.marks

-- the strip has room for `more` marks
abbrev pub HasRoomOf : ℕ → StripMarks → Type 0
HasRoomOf more l = (vec_len l.marks + more) ≤ vec_capacity l.marks

-- the strip's marks are in order, and it has room for the part of the rectangle that lies in the
-- area, if there is one
pub record TakesPart (area rect : Rect) (l : StripMarks) : Type 0 where
  pub order : AreRising l.marks.items
  pub room : HasPoints (part_in area rect) → HasRoom l

-- the mark of an entry with this width is added to the strip, at its place in the order
pub record IsJoined (m : Mark) (width : ℤ) (old new : StripMarks) : Type 0 where
  pub at : ℕ
  pub bound : at ≤ length old.marks.items
  pub marks : new.marks.items ≡ insert old.marks.items at m
  pub before : (k : ℕ) (d : Mark) → k < at → (slice_index_or old.marks.items k d).left <ℤ m.left
  pub after_it : (k : ℕ) (d : Mark) → at ≤ k → k < length old.marks.items
      → m.left ≤ℤ (slice_index_or old.marks.items k d).left
  pub widest : new.widest ≡ int_max old.widest width
  pub more : vec_len new.marks ≡ vec_len old.marks + 1
  pub room : vec_capacity new.marks ≡ vec_capacity old.marks

-- the mark is the cell's for this part of its strip
pub record IsMarkOf (own : ℕ) (part : Rect) (m : Mark) : Type 0 where
  pub is : m.own ≡ own
  pub left : m.left ≡ part.x1
  pub width : m.width ≡ (part.x2 -ℤ part.x1)
  pub some : pos 0 ≤ℤ m.width

-- a mark of the cell for this part is added to the strip
pub record IsAdded (own : ℕ) (part : Rect) (old new : StripMarks) : Type 0 where
  pub mark : Mark
  pub of : IsMarkOf own part mark
  pub joined : IsJoined mark (part.x2 -ℤ part.x1) old new

-- the part is marked in the strip if it has a point; otherwise the strip is unchanged
abbrev pub IsPutPart : ℕ → Rect → StripMarks → StripMarks → Type 0
IsPutPart own part old new = (HasPoints part × IsAdded own part old new) ⊎ ((HasPoints part → ⊥) × (new ≡ old))

-- the part of the cell's box that lies in the area is marked if it has a point; otherwise the strip
-- is unchanged
abbrev pub IsPutIn : ℕ → Rect → Rect → StripMarks → StripMarks → Type 0
IsPutIn own rect area old new = IsPutPart own (part_in area rect) old new

-- the rectangle lies no farther from 0 along x than a widened strip does, and begins at the x of a
-- place or to the left of it
pub record IsNearZero (r : Rect) : Type 0 where
  pub low : negsuc 549755813887 ≤ℤ r.x1
  pub high : r.x2 ≤ℤ pos 549755813888
  pub begins : r.x1 ≤ℤ pos 2147483647

-- the number is a possible x of a place
pub record IsPlaceX (x : ℤ) : Type 0 where
  pub low : negsuc 2147483647 ≤ℤ x
  pub high : x ≤ℤ pos 2147483647
