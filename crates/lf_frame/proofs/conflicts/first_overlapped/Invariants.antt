use Rattle.lf_frame.specs.Conflicts.{OverlapsFence}
use Rattle.lf_frame.proofs.Firsts.{NoneBelow}
use Rattle.lf_frame.proofs.conflicts.first_overlapped.Given as goal

abbrev pub invariant-loop-number : goal.invariant-loop-number
invariant-loop-number l = NoneBelow (OverlapsFence l.fence) l.regions l.number
