use Rattle.lf_frame.specs.Refusals.{IsSideways}
use Rattle.lf_frame.proofs.Firsts.{NoneBelow}
use Rattle.lf_frame.proofs.row_checks.first_turned.Given as goal

abbrev pub invariant-loop-number : goal.invariant-loop-number
invariant-loop-number l = NoneBelow (IsSideways l.core) l.rows l.number
