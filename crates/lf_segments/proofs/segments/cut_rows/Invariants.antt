use Rattle.lf_segments.proofs.RowLemmas.{IsCutTo}
use Rattle.lf_segments.proofs.segments.cut_rows.Given as goal

abbrev pub ghost-push_row : goal.ghost-push_row
ghost-push_row a = a.frame.now.obstacles

-- The segments of the rows so far.
abbrev pub invariant-loop-number : goal.invariant-loop-number
invariant-loop-number l = IsCutTo l.frame l.frame.obstacles l.number l.segments.items
