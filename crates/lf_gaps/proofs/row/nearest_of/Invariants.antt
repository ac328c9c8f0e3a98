use Rattle.std.proofs.Common.{◌≤◌, length, drop}
use Rattle.lf_units.specs.Grids.{FindsNearest}
use Rattle.lf_gaps.specs.Gaps.{FitsOne}
use Rattle.lf_gaps.proofs.row.nearest_of.Given as goal

-- The nearest number in the spans from here on.
abbrev pub invariant-loop-i : goal.invariant-loop-i
invariant-loop-i l = record {
  within : l.i ≤ length l.spans;
  nearest : FindsNearest (λ x. FitsOne (drop l.i l.spans) l.grid l.wanted.width x) l.wanted.target l.best;
}

abbrev pub decreases-loop-i : goal.decreases-loop-i
decreases-loop-i l = l.i
