use Rattle.lf_frame.specs.Refusals.{OverlapsEarlierRow}
use Rattle.lf_frame.proofs.Firsts.{NoneBelow}
use Rattle.lf_frame.proofs.row_checks.row_overlap_by_pairs.Given as goal

abbrev pub invariant-loop-number : goal.invariant-loop-number
invariant-loop-number l = NoneBelow (OverlapsEarlierRow l.core l.pitch.size) l.rows l.number
