use Rattle.std.proofs.Common.{◌↔◌, ◌∷◌, length}
use Rattle.lf_names.specs.Pattern.{star, parts_of, Becomes}
use Rattle.lf_names.proofs.pattern.denotes_an_end.Given as goal

abbrev pub invariant-loop-piece : goal.invariant-loop-piece
invariant-loop-piece l = Becomes (star ∷ parts_of l.pattern) l.name ↔ Becomes (star ∷ parts_of l.remaining_pattern) l.remaining_name

abbrev pub decreases-loop-piece : goal.decreases-loop-piece
decreases-loop-piece l = length l.remaining_pattern
