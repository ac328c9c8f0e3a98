use Rattle.lf_frame.specs.Refusals.{HasBadStep}
use Rattle.lf_frame.proofs.Firsts.{NoneBelow}
use Rattle.lf_frame.proofs.row_checks.first_bad_step.Given as goal

abbrev pub invariant-loop-number : goal.invariant-loop-number
invariant-loop-number l = NoneBelow (HasBadStep l.core l.pitch.size) l.rows l.number
