use Rattle.lf_segments.proofs.CoverLemmas.{CoversSoFar}
use Rattle.lf_segments.proofs.cover.covered_over.Given as goal

-- The parts covered at the lower edge and at the ends of the boxes read so far.
abbrev pub invariant-loop-placed : goal.invariant-loop-placed
invariant-loop-placed l = CoversSoFar l.boxes l.area.y1 l.area.y2 l.last l.free l.covered.items l.placed-index
