use Rattle.std.proofs.Common.{◌≡◌, [], get_or, take}
use Rattle.lf_occupancy.specs.MarkLists.{all_padded, marked_entries, spans_in}
use Rattle.lf_occupancy.proofs.strip_marks.padded_of.Given as goal

-- the x ranges of the entries visited, widened
abbrev pub invariant-loop-mark : goal.invariant-loop-mark
invariant-loop-mark l = l.list.items ≡ spans_in (all_padded l.padding.length (take l.mark-index (marked_entries (get_or l.strip.boxes.now l.strip.team []) l.strip.area l.marks)))
