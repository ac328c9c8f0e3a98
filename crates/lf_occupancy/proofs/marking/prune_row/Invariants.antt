use Rattle.lf_occupancy.specs.MarkLists.{IsUnmarked}
use Rattle.lf_occupancy.specs.Strips.{AreChanged}
use Rattle.lf_occupancy.proofs.Changes.{IsBetween}
use Rattle.lf_occupancy.proofs.marking.prune_row.Given as goal

-- the strips visited are without the cell's marks
abbrev pub invariant-loop-n : goal.invariant-loop-n
invariant-loop-n l = AreChanged (IsBetween l.initial.n l.n l.n-end) (λ n. IsUnmarked l.id.own) l.initial.mark_lists.items l.mark_lists.items
