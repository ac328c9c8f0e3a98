use Rattle.lf_frame.proofs.Pieces.{NoneFrom}
use Rattle.lf_frame.proofs.sweep.none_clash_upwards.Given as goal

abbrev pub invariant-loop-number : goal.invariant-loop-number
invariant-loop-number l = NoneFrom l.pieces l.number
