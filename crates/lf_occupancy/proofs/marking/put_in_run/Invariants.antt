use Rattle.lf_occupancy.specs.Strips.{AreChanged, PutsIn}
use Rattle.lf_occupancy.proofs.Changes.{IsBetween}
use Rattle.lf_occupancy.specs.Widened.{all_widened}
use Rattle.lf_occupancy.proofs.marking.put_in_run.Given as goal

-- the strips visited have the cell's parts
abbrev pub invariant-loop-n : goal.invariant-loop-n
invariant-loop-n l =
    AreChanged (IsBetween l.initial.n l.n l.n-end) (PutsIn (all_widened l.strips) l.cell.id.now.own l.cell.rect.now) l.initial.mark_lists.items l.mark_lists.items
