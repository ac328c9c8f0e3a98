use Rattle.std.proofs.Common.{take, None}
use Rattle.std.specs.Prelude.{Any}
use Rattle.lf_occupancy.specs.MarkLists.{IsLeast}
use Rattle.lf_occupancy.specs.Strips.{OverlapsInRow, strip_views}
use Rattle.lf_occupancy.specs.Widened.{all_widened}
use Rattle.lf_occupancy.proofs.queries.least_overlapped.Given as goal

-- the least of the overlaps in the rows visited
abbrev pub invariant-loop-entry : goal.invariant-loop-entry
invariant-loop-entry l =
    IsLeast (λ own. Any (λ e. OverlapsInRow (all_widened l.marked.strips.now) (strip_views (all_widened l.marked.strips.now) l.marked.boxes.now l.marked.mark_lists.now) e.row l.id.team l.rect l.id.own own) (take l.entry-index l.entry-items)) None l.least
