use Rattle.std.proofs.Common.{[], get_or}
use Rattle.lf_units.proofs.Frees.{Frees}
use Rattle.lf_occupancy.specs.MarkLists.{marked_entries}
use Rattle.lf_occupancy.proofs.Walking.{passed, taken}
use Rattle.lf_occupancy.proofs.strip_marks.free_beside.Given as goal

-- the free spans of the entries visited, and the remaining range
abbrev pub invariant-loop-mark : goal.invariant-loop-mark
invariant-loop-mark l =
    Frees l.range (taken l.padding.length (marked_entries (get_or l.strip.boxes.now l.strip.team []) l.strip.area l.marks) l.own) l.free.items l.rest
    (passed l.padding.length (marked_entries (get_or l.strip.boxes.now l.strip.team []) l.strip.area l.marks) l.own l.mark-index)
