use Rattle.lf_occupancy.specs.Strips.{AreChanged}
use Rattle.lf_occupancy.specs.StripCounting.{IsLessAt}
use Rattle.lf_occupancy.proofs.Changes.{IsBetween}
use Rattle.lf_occupancy.specs.Widened.{all_widened}
use Rattle.lf_occupancy.proofs.strip_counts.lower_run.Given as goal

-- the strips visited count less
abbrev pub invariant-loop-n : goal.invariant-loop-n
invariant-loop-n l = AreChanged (IsBetween l.initial.n l.n l.n-end) (IsLessAt (all_widened l.strips) l.rect) l.initial.counts.items l.counts.items
