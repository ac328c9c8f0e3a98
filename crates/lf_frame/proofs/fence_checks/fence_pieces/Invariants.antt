use Rattle.lf_frame.specs.Sweep.{fence_pieces}
use Rattle.lf_frame.proofs.Pieces.{HoldBelow}
use Rattle.lf_frame.proofs.fence_checks.fence_pieces.Given as goal

abbrev pub invariant-loop-number : goal.invariant-loop-number
invariant-loop-number l = HoldBelow fence_pieces l.regions l.number l.pieces.items
