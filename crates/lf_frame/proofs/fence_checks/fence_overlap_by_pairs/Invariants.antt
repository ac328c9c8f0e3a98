use Rattle.lf_frame.specs.Refusals.{OverlapsEarlierFence}
use Rattle.lf_frame.proofs.Firsts.{NoneBelow}
use Rattle.lf_frame.proofs.fence_checks.fence_overlap_by_pairs.Given as goal

abbrev pub invariant-loop-number : goal.invariant-loop-number
invariant-loop-number l = NoneBelow OverlapsEarlierFence l.regions l.number
