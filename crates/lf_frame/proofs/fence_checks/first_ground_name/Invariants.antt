use Rattle.lf_frame.specs.Refusals.{HasGroundName}
use Rattle.lf_frame.proofs.Firsts.{NoneBelow}
use Rattle.lf_frame.proofs.fence_checks.first_ground_name.Given as goal

abbrev pub invariant-loop-number : goal.invariant-loop-number
invariant-loop-number l = NoneBelow HasGroundName l.regions l.number
