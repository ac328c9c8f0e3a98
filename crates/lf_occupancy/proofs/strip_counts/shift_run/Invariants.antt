use Rattle.lf_occupancy.specs.Views.{KeepsCapacities}
use Rattle.lf_occupancy.specs.Strips.{AreChanged, KeepMarksOf, capacities_in}
use Rattle.lf_occupancy.specs.StripCounting.{IsShiftedAt}
use Rattle.lf_occupancy.proofs.Changes.{IsBetween}
use Rattle.lf_occupancy.specs.Widened.{all_widened}
use Rattle.lf_occupancy.proofs.strip_counts.shift_run.Given as goal

-- the strips visited count one box in place of the other, and all have room for what they count
abbrev pub invariant-loop-n : goal.invariant-loop-n
invariant-loop-n l = record {
  kept : KeepMarksOf l.initial.mark_lists.items l.mark_lists.items;
  shifted : AreChanged (IsBetween l.initial.n l.n l.n-end) (IsShiftedAt (all_widened l.strips) l.shift) l.initial.counts.items l.counts.items;
  room : KeepsCapacities l.counts.items (capacities_in l.mark_lists.items);
}
