use Rattle.std.proofs.Common.{[]}
use Rattle.lf_segments.proofs.RowLemmas.{IsCutTo}
use Rattle.lf_segments.proofs.segments.cut_both.Given as goal

abbrev pub ghost-push_row : goal.ghost-push_row
ghost-push_row a = a.frame.now.obstacles

-- The segments of the rows so far, and their land.
abbrev pub invariant-loop-number : goal.invariant-loop-number
invariant-loop-number l = IsCutTo l.frame l.frame.obstacles l.number l.segments.items × IsCutTo l.frame [] l.number l.land.items
