use Rattle.std.proofs.Common.{[], get_or, take}
use Rattle.std.specs.Prelude.{Any}
use Rattle.lf_occupancy.specs.MarkLists.{IsLeast, OverlapsEntry, marked_entry}
use Rattle.lf_occupancy.proofs.strip_marks.least_in.Given as goal

-- the least of the number at the start and of the entries visited
abbrev pub invariant-loop-mark : goal.invariant-loop-mark
invariant-loop-mark l =
    IsLeast (λ own. Any (λ m. OverlapsEntry l.rect l.but own (marked_entry (get_or l.strip.boxes.now l.strip.team []) l.strip.area m)) (take l.mark-index l.marks)) l.fn.so_far l.least
