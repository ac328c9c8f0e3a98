use Rattle.std.proofs.Common.{take}
use Rattle.lf_occupancy.specs.Strips.{AreChanged, IsReached, PutsIn}
use Rattle.lf_occupancy.specs.Widened.{all_widened}
use Rattle.lf_occupancy.proofs.marking.put_in_rows.Given as goal

-- the strips of the rows visited are changed
abbrev pub invariant-loop-entry : goal.invariant-loop-entry
invariant-loop-entry l =
    AreChanged (IsReached (all_widened l.strips) (take l.entry-index l.rows.rows.now) l.cell.id.now.team l.cell.rect.now)
    (PutsIn (all_widened l.strips) l.cell.id.now.own l.cell.rect.now) l.initial.mark_lists.items l.mark_lists.items
