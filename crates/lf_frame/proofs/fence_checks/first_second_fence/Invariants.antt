use Rattle.std.proofs.Common.{◌≡◌, take}
use Rattle.lf_frame.specs.Teams.{fence_names}
use Rattle.lf_frame.specs.Refusals.{HasEarlierFenceName}
use Rattle.lf_frame.proofs.Firsts.{NoneBelow}
use Rattle.lf_frame.proofs.fence_checks.first_second_fence.Given as goal

abbrev pub invariant-loop-number : goal.invariant-loop-number
invariant-loop-number l = record {
  known : l.names ≡ fence_names (take l.number l.regions);
  none : NoneBelow HasEarlierFenceName l.regions l.number;
}
