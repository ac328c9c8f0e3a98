use Rattle.lf_legalize.proofs.RunLemmas.{FreeSoFar}
use Rattle.lf_legalize.proofs.levels.free_above.Given as goal

-- the free spans on the rows visited
abbrev pub invariant-loop-entry : goal.invariant-loop-entry
invariant-loop-entry l = FreeSoFar l.search l.bottom.row.now l.level l.bottom.window.now.span l.entry-items l.entry-index l.spans.items
