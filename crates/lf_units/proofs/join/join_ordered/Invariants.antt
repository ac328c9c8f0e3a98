use Rattle.lf_units.proofs.Joins.{Joins}
use Rattle.lf_units.proofs.join.join_ordered.Given as goal

-- The union so far, and the last span, which may grow.
abbrev pub invariant-loop-span : goal.invariant-loop-span
invariant-loop-span l = Joins l.spans l.joined.items l.last l.span-index
