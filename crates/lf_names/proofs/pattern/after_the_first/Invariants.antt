use Rattle.std.proofs.Common.{length}
use Rattle.lf_names.proofs.Places.{IsEndWithAll}
use Rattle.lf_names.proofs.pattern.after_the_first.Given as goal

abbrev pub invariant-loop-rest : goal.invariant-loop-rest
invariant-loop-rest l = IsEndWithAll l.name l.piece l.end

abbrev pub decreases-loop-rest : goal.decreases-loop-rest
decreases-loop-rest l = length l.end
