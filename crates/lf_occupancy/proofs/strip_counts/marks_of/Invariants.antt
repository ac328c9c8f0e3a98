use Rattle.std.proofs.Common.{◌≡◌, map, take, vec_len}
use Rattle.lf_occupancy.proofs.strip_counts.marks_of.Given as goal

abbrev pub invariant-loop-mark_list : goal.invariant-loop-mark_list
invariant-loop-mark_list l = l.counts.items ≡ map (λ l. vec_len l.marks) (take l.mark_list-index l.mark_lists)
