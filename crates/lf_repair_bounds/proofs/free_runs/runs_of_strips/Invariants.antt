use Rattle.lf_repair_bounds.proofs.TeamRunLemmas.{AreRunsSo}
use Rattle.lf_repair_bounds.proofs.free_runs.runs_of_strips.Given as goal

-- the runs of the strips so far
abbrev pub invariant-loop-strip : goal.invariant-loop-strip
invariant-loop-strip l = AreRunsSo l.frame l.team l.tree l.strips l.strip-index l.runs.items
