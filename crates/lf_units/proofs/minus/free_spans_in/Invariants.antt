use Rattle.std.proofs.Common.{map}
use Rattle.lf_units.proofs.Frees.{Frees}
use Rattle.lf_units.proofs.minus.free_spans_in.Given as goal

-- The free spans so far, and the rest of the range.
abbrev pub invariant-loop-entry : goal.invariant-loop-entry
invariant-loop-entry g l = Frees l.range (map g.T.HasSpan.span l.taken) l.free.items l.rest l.entry-index
