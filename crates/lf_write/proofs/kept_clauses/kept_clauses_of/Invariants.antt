use Rattle.std.proofs.Common.{map, take}
use Rattle.lf_write.specs.Export.{clause_of}
use Rattle.lf_write.proofs.Keeping.{AreKept}
use Rattle.lf_write.proofs.kept_clauses.kept_clauses_of.Given as goal

-- The clauses of the components so far.
abbrev pub invariant-loop-component : goal.invariant-loop-component
invariant-loop-component l = AreKept l.others.items l.entries.items l.far.items (map (clause_of l.text) (take l.component-index l.components))
