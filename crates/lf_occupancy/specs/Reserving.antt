-- How a cell is marked: its strips get room for it first.
use Rattle.std.specs.Prelude.{◌≡◌, ℕ, ◌<◌, ◌≤◌, List, length}
use Rattle.lf_units.specs.declared.geometry.Rect.{Rect}
use Rattle.lf_segments.specs.declared.strip.Strip.{Strip}
use Rattle.lf_segments.specs.declared.strips.StripRange.{StripRange}
use Rattle.lf_occupancy.specs.declared.strip_marks.StripMarks.{StripMarks}
use Rattle.lf_occupancy.specs.Strips.{AreChanged, CanTake, KeepMarksOf, PutsIn}

-- the number is in the range
abbrev pub IsOneOf : StripRange → ℕ → Type 0
IsOneOf near n = (near.start ≤ n) × (n < near.end)

-- there is a list of marks for each strip, and the strips of the range have room for the parts of
-- the rectangle
pub record CanTakeInRun (strips : List Strip) (near : StripRange) (rect : Rect)
    (mark_lists : List StripMarks) : Type 0 where
  pub many : length mark_lists ≡ length strips
  pub within : near.end ≤ length strips
  pub room : CanTake strips rect (IsOneOf near) mark_lists

-- the strips get room, and then the cell's parts are marked in the chosen ones
pub record AreReservedAndMarked (strips : List Strip) (own : ℕ) (rect : Rect) (Chosen : ℕ → Type 0)
    (old new : List StripMarks) : Type 0 where
  pub roomy : List StripMarks
  pub kept : KeepMarksOf old roomy
  pub put : AreChanged Chosen (PutsIn strips own rect) roomy new
