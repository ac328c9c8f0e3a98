use Rattle.std.proofs.Common.{[], get_or}
use Rattle.lf_occupancy.specs.MarkLists.{marked_entries}
use Rattle.lf_occupancy.proofs.Gaps.{IsSearchedTo}
use Rattle.lf_occupancy.proofs.Walking.{passed, taken}
use Rattle.lf_occupancy.proofs.nearest_gap.nearest_beside.Given as goal

-- the nearest place in the free spans of the entries visited, and the remaining range
abbrev pub invariant-loop-mark : goal.invariant-loop-mark
invariant-loop-mark l =
    IsSearchedTo l.range (taken l.padding.length (marked_entries (get_or l.strip.boxes.now l.strip.team []) l.strip.area l.marks) l.own) l.rest
    (passed l.padding.length (marked_entries (get_or l.strip.boxes.now l.strip.team []) l.strip.area l.marks) l.own l.mark-index) l.wanted l.best
