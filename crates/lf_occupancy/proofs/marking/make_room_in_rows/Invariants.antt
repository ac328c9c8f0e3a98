use Rattle.std.proofs.Common.{ℕ, get_or, take}
use Rattle.lf_occupancy.specs.declared.strip_marks.StripMarks.{StripMarks}
use Rattle.lf_occupancy.specs.MarkLists.{HasRoomOf}
use Rattle.lf_occupancy.specs.Strips.{KeepMarksOf, IsReached}
use Rattle.lf_occupancy.specs.Widened.{all_widened}
use Rattle.lf_occupancy.proofs.marking.make_room_in_rows.Given as goal

-- all strips keep their marks, and those of the rows visited have room
abbrev pub invariant-loop-entry : goal.invariant-loop-entry
invariant-loop-entry l = record {
  kept : KeepMarksOf l.initial.mark_lists.items l.mark_lists.items;
  room : (n : ℕ) (e : StripMarks) → IsReached (all_widened l.strips) (take l.entry-index l.rows) l.id.team l.rect n → HasRoomOf l.more (get_or l.mark_lists.items n e);
}
