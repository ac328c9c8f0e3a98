use Rattle.lf_repair_bounds.proofs.StripRunLemmas.{AreCoveredSo}
use Rattle.lf_repair_bounds.proofs.free_runs.blocked_sites.Given as goal

-- the ranges of the boxes so far
abbrev pub invariant-loop-placed : goal.invariant-loop-placed
invariant-loop-placed l = AreCoveredSo l.row.x l.step l.area l.boxes l.placed-index l.ranges.items
