use Rattle.lf_occupancy.specs.Views.{KeepsCapacities}
use Rattle.lf_occupancy.specs.Strips.{AreChanged, KeepMarksOf, capacities_in}
use Rattle.lf_occupancy.specs.StripCounting.{IsMore}
use Rattle.lf_occupancy.proofs.Changes.{IsBetween}
use Rattle.lf_occupancy.proofs.strip_counts.raise_run.Given as goal

-- the strips visited count one more, and all have room for what they count
abbrev pub invariant-loop-n : goal.invariant-loop-n
invariant-loop-n l = record {
  kept : KeepMarksOf l.initial.mark_lists.items l.mark_lists.items;
  more : AreChanged (IsBetween l.initial.n l.n l.n-end) IsMore l.initial.counts.items l.counts.items;
  room : KeepsCapacities l.counts.items (capacities_in l.mark_lists.items);
}
