use Rattle.std.proofs.Common.{take}
use Rattle.lf_occupancy.specs.Strips.{AreChanged, IsReached}
use Rattle.lf_occupancy.specs.StripCounting.{IsLessAt}
use Rattle.lf_occupancy.specs.Widened.{all_widened}
use Rattle.lf_occupancy.proofs.strip_counts.lower_rows.Given as goal

-- the strips of the rows visited count less
abbrev pub invariant-loop-entry : goal.invariant-loop-entry
invariant-loop-entry l =
    AreChanged (IsReached (all_widened l.strips) (take l.entry-index l.rows.rows.now) l.team l.rect) (IsLessAt (all_widened l.strips) l.rect)
    l.initial.counts.items l.counts.items
