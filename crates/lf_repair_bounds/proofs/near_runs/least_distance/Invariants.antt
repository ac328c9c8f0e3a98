use Rattle.lf_repair_bounds.proofs.NearRunLemmas.{Nearest}
use Rattle.lf_repair_bounds.proofs.near_runs.least_distance.Given as goal

-- the least distance of the rows so far, and of the first one
abbrev pub invariant-loop-run : goal.invariant-loop-run
invariant-loop-run l = Nearest l.target l.runs l.run-index l.least
