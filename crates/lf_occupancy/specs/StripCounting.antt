-- The steps of counting a cell's box at another place. No public clause cites this module.
use Rattle.std.specs.Prelude.{◌≡◌, ◌≢◌, ℕ, ◌+◌, ◌<◌, ◌≤◌, List, [], ◌∷◌, length, Option, Some, slice_index_or}
use Rattle.std.specs.Int.{int_max, int_min}
use Rattle.lf_units.specs.declared.geometry.Rect.{Rect}
use Rattle.lf_segments.specs.declared.strip.Strip.{Strip}
use Rattle.lf_occupancy.specs.MarkLists.{HasPoints, part_in}
use Rattle.lf_occupancy.specs.declared.strip_counts.BoxChange.{BoxChange}
use Rattle.lf_occupancy.specs.declared.strip_marks.StripMarks.{StripMarks}
use Rattle.lf_occupancy.specs.Strips.{capacities_in}
use Rattle.lf_occupancy.specs.Views.{KeepsCapacities, count_in}

-- there is a list of marks for each strip, with room for as many marks as are counted
pub record HaveRoomForCounts (strips : List Strip) (mark_lists : List StripMarks) (counts : List ℕ) : Type 0 where
  pub many : length mark_lists ≡ length strips
  pub room : KeepsCapacities counts (capacities_in mark_lists)

-- one less, unless it is 0 already, if the rectangle shares a point with the area; otherwise
-- unchanged
pub record IsLess (area rect : Rect) (old new : ℕ) : Type 0 where
  pub most : new ≤ old
  pub least : old ≤ new + 1
  pub same : (HasPoints (part_in area rect) → ⊥) → new ≡ old

-- the same for the strip of this number
abbrev pub IsLessAt : List Strip → Rect → ℕ → ℕ → ℕ → Type 0
IsLessAt strips rect n old new = (d : Strip) → IsLess (slice_index_or strips n d).area rect old new

-- one more
abbrev pub IsMore : ℕ → ℕ → ℕ → Type 0
IsMore n old new = new ≡ old + 1

-- only strips of the team that share a point with the box may count less, and those at most one
-- less
pub record IsLower (strips : List Strip) (team : ℕ) (from : Option Rect) (old new : List ℕ) : Type 0 where
  pub many : length new ≡ length old
  pub most : (n : ℕ) → slice_index_or new n 0 ≤ slice_index_or old n 0
  pub least : (n : ℕ) (d : Strip) → n < length strips →
      slice_index_or old n 0 ≤ slice_index_or new n 0 + count_in (slice_index_or strips n d) (from ∷ [])
  pub others : (n : ℕ) (d : Strip) → n < length strips → (slice_index_or strips n d).team ≢ team
      → slice_index_or new n 0 ≡ slice_index_or old n 0

-- no strip counts less, and those of the team that share a point with the box count at least one
-- more
pub record IsHigher (strips : List Strip) (team : ℕ) (to : Option Rect) (old new : List ℕ) : Type 0 where
  pub many : length new ≡ length old
  pub least : (n : ℕ) → slice_index_or old n 0 ≤ slice_index_or new n 0
  pub more : (n : ℕ) (d : Strip) → n < length strips → (slice_index_or strips n d).team ≡ team →
      (slice_index_or old n 0 + count_in (slice_index_or strips n d) (to ∷ [])) ≤ slice_index_or new n 0

-- the change is from the first box to the second
pub record IsShiftOf (from to : Option Rect) (shift : BoxChange) : Type 0 where
  pub from_is : from ≡ Some shift.from
  pub to_is : to ≡ Some shift.to

-- the rectangle that holds both boxes
abbrev pub hull_in : BoxChange → Rect
hull_in s = record {
  x1 = int_min s.from.x1 s.to.x1;
  y1 = int_min s.from.y1 s.to.y1;
  x2 = int_max s.from.x2 s.to.x2;
  y2 = int_max s.from.y2 s.to.y2;
}

-- at most one less, and only if the old box shares a point with the area and the new one does not;
-- one more if only the new one does
pub record IsShifted (area : Rect) (shift : BoxChange) (old new : ℕ) : Type 0 where
  pub least : old ≤ new + 1
  pub goes : HasPoints (part_in area shift.to) → old ≤ new
  pub stays : (HasPoints (part_in area shift.from) → ⊥) → old ≤ new
  pub more : (HasPoints (part_in area shift.from) → ⊥) → HasPoints (part_in area shift.to) → old + 1 ≤ new

-- the same for the strip of this number
abbrev pub IsShiftedAt : List Strip → BoxChange → ℕ → ℕ → ℕ → Type 0
IsShiftedAt strips shift n old new = (d : Strip) → IsShifted (slice_index_or strips n d).area shift old new

-- strips of the team that share a point with only the new box count one more; those that share a
-- point with only the old box count at most one less; those of other teams count the same
pub record AreShifted (strips : List Strip) (team : ℕ) (shift : BoxChange) (old new : List ℕ) : Type 0 where
  pub many : length new ≡ length old
  pub own : (n : ℕ) (d : Strip) → n < length strips → (slice_index_or strips n d).team ≡ team →
      (slice_index_or old n 0 + count_in (slice_index_or strips n d) (Some shift.to ∷ [])) ≤
      slice_index_or new n 0 + count_in (slice_index_or strips n d) (Some shift.from ∷ [])
  pub others : (n : ℕ) (d : Strip) → n < length strips → (slice_index_or strips n d).team ≢ team
      → slice_index_or new n 0 ≡ slice_index_or old n 0
