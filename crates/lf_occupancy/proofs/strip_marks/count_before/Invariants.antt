use Rattle.lf_occupancy.proofs.Runs.{IsHalved}
use Rattle.lf_occupancy.proofs.strip_marks.count_before.Given as goal

-- the number lies from `from` on, and at most `rest` farther
abbrev pub invariant-loop-rest : goal.invariant-loop-rest
invariant-loop-rest l = IsHalved l.marks l.x l.from l.rest

abbrev pub decreases-loop-rest : goal.decreases-loop-rest
decreases-loop-rest l = l.rest
