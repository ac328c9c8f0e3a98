use Rattle.std.proofs.Common.{ℕ, get_or}
use Rattle.lf_occupancy.specs.declared.strip_marks.StripMarks.{StripMarks}
use Rattle.lf_occupancy.specs.MarkLists.{HasRoomOf}
use Rattle.lf_occupancy.specs.Strips.{KeepMarksOf}
use Rattle.lf_occupancy.proofs.Changes.{IsBetween}
use Rattle.lf_occupancy.proofs.marking.make_room_in_row.Given as goal

-- all strips keep their marks, and those visited have room
abbrev pub invariant-loop-n : goal.invariant-loop-n
invariant-loop-n l = record {
  kept : KeepMarksOf l.initial.mark_lists.items l.mark_lists.items;
  room : (n : ℕ) (e : StripMarks) → IsBetween l.initial.n l.n l.n-end n → HasRoomOf l.more (get_or l.mark_lists.items n e);
}
