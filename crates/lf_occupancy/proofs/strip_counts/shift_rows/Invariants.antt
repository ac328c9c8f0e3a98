use Rattle.std.proofs.Common.{take}
use Rattle.lf_occupancy.specs.Views.{KeepsCapacities}
use Rattle.lf_occupancy.specs.Strips.{AreChanged, KeepMarksOf, IsReached, capacities_in}
use Rattle.lf_occupancy.specs.StripCounting.{IsShiftedAt}
use Rattle.lf_occupancy.specs.Widened.{all_widened}
use Rattle.lf_occupancy.proofs.strip_counts.shift_rows.Given as goal

-- the strips of the rows visited count one box in place of the other, and all have room for what
-- they count
abbrev pub invariant-loop-entry : goal.invariant-loop-entry
invariant-loop-entry l = record {
  kept : KeepMarksOf l.initial.mark_lists.items l.mark_lists.items;
  shifted : AreChanged (IsReached (all_widened l.strips) (take l.entry-index l.entry-items) l.team l.hull)
      (IsShiftedAt (all_widened l.strips) l.shift) l.initial.counts.items l.counts.items;
  room : KeepsCapacities l.counts.items (capacities_in l.mark_lists.items);
}
