use Rattle.lf_occupancy.specs.MarkLists.{IsLeast}
use Rattle.lf_occupancy.specs.Strips.{strip_views}
use Rattle.lf_occupancy.proofs.Finds.{OverlapsBetween}
use Rattle.lf_occupancy.specs.Widened.{all_widened}
use Rattle.lf_occupancy.proofs.queries.least_in_row.Given as goal

-- the least of the number at the start and of the overlaps in the strips visited
abbrev pub invariant-loop-n : goal.invariant-loop-n
invariant-loop-n l =
    IsLeast (OverlapsBetween (strip_views (all_widened l.marked.strips.now) l.marked.boxes.now l.marked.mark_lists.now) l.initial.n l.n l.n-end l.rect l.id.own) l.fn.so_far l.least
