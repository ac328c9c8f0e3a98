use Rattle.lf_frame.specs.Findings.{inputs}
use Rattle.lf_frame.proofs.Numbers.{NoneBelow}
use Rattle.lf_frame.proofs.all_checks.first_finding.Given as goal

abbrev pub invariant-loop-number : goal.invariant-loop-number
invariant-loop-number l = NoneBelow (inputs l.library l.document l.limits) l.number
