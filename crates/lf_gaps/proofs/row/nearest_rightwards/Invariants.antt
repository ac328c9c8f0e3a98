use Rattle.std.proofs.Common.{take}
use Rattle.lf_units.specs.Grids.{FindsNearest}
use Rattle.lf_gaps.specs.Gaps.{FitsOne}
use Rattle.lf_gaps.proofs.row.nearest_rightwards.Given as goal

-- The nearest number in the spans read so far.
abbrev pub invariant-loop-span : goal.invariant-loop-span
invariant-loop-span l = FindsNearest (λ x. FitsOne (take l.span-index l.spans) l.grid l.wanted.width x) l.wanted.target l.best
