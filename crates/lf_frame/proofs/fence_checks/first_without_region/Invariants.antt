use Rattle.lf_frame.specs.Refusals.{HasNoRegion}
use Rattle.lf_frame.proofs.Firsts.{NoneBelow}
use Rattle.lf_frame.proofs.fence_checks.first_without_region.Given as goal

abbrev pub invariant-loop-number : goal.invariant-loop-number
invariant-loop-number l = NoneBelow (HasNoRegion l.regions) l.groups l.number
