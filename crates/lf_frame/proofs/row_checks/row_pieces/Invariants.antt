use Rattle.lf_frame.specs.Sweep.{row_pieces}
use Rattle.lf_frame.proofs.Pieces.{HoldBelow}
use Rattle.lf_frame.proofs.row_checks.row_pieces.Given as goal

abbrev pub invariant-loop-number : goal.invariant-loop-number
invariant-loop-number l = HoldBelow (row_pieces l.core l.pitch.size) l.rows l.number l.pieces.items
