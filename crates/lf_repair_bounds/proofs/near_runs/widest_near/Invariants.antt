use Rattle.lf_repair_bounds.proofs.NearRunLemmas.{Widest}
use Rattle.lf_repair_bounds.proofs.near_runs.widest_near.Given as goal

-- the widest run of the near rows so far
abbrev pub invariant-loop-run : goal.invariant-loop-run
invariant-loop-run l = Widest l.target l.far l.runs l.run-index l.widest
