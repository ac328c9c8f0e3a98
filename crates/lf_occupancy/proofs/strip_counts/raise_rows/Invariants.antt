use Rattle.std.proofs.Common.{take}
use Rattle.lf_occupancy.specs.Views.{KeepsCapacities}
use Rattle.lf_occupancy.specs.Strips.{AreChanged, KeepMarksOf, IsReached, capacities_in}
use Rattle.lf_occupancy.specs.StripCounting.{IsMore}
use Rattle.lf_occupancy.specs.Widened.{all_widened}
use Rattle.lf_occupancy.proofs.strip_counts.raise_rows.Given as goal

-- the strips of the rows visited count one more, and all have room for what they count
abbrev pub invariant-loop-entry : goal.invariant-loop-entry
invariant-loop-entry l = record {
  kept : KeepMarksOf l.initial.mark_lists.items l.mark_lists.items;
  more : AreChanged (IsReached (all_widened l.strips) (take l.entry-index l.entry-items) l.team l.rect) IsMore l.initial.counts.items l.counts.items;
  room : KeepsCapacities l.counts.items (capacities_in l.mark_lists.items);
}
