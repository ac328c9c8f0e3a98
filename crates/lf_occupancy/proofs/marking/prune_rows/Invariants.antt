use Rattle.std.proofs.Common.{take}
use Rattle.lf_occupancy.specs.MarkLists.{IsUnmarked}
use Rattle.lf_occupancy.specs.Strips.{AreChanged, IsReached}
use Rattle.lf_occupancy.specs.Widened.{all_widened}
use Rattle.lf_occupancy.proofs.marking.prune_rows.Given as goal

-- the strips of the rows visited are changed
abbrev pub invariant-loop-entry : goal.invariant-loop-entry
invariant-loop-entry l =
    AreChanged (IsReached (all_widened l.strips) (take l.entry-index l.rows.rows.now) l.id.team l.rect) (λ n. IsUnmarked l.id.own) l.initial.mark_lists.items l.mark_lists.items
