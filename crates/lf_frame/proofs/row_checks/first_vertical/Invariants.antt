use Rattle.lf_frame.specs.Refusals.{IsVertical}
use Rattle.lf_frame.proofs.Firsts.{NoneBelow}
use Rattle.lf_frame.proofs.row_checks.first_vertical.Given as goal

abbrev pub invariant-loop-number : goal.invariant-loop-number
invariant-loop-number l = NoneBelow (IsVertical l.core) l.rows l.number
