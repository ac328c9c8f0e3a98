use Rattle.lf_segments.proofs.OnRowLemmas.{LiesBelow}
use Rattle.lf_segments.proofs.row_lookup.lies_in.Given as goal

-- The box lies in one segment in each of the rows at the levels so far.
abbrev pub invariant-loop-level : goal.invariant-loop-level
invariant-loop-level l = LiesBelow l.frame l.segments l.team l.rect l.level
