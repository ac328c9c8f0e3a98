use Rattle.lf_frame.specs.Refusals.{EndsTooFar}
use Rattle.lf_frame.proofs.Firsts.{NoneBelow}
use Rattle.lf_frame.proofs.row_checks.first_too_far.Given as goal

abbrev pub invariant-loop-number : goal.invariant-loop-number
invariant-loop-number l = NoneBelow (EndsTooFar l.core l.pitch.size) l.rows l.number
