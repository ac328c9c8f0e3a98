use Rattle.std.proofs.Common.{◌≡◌, true}
use Rattle.lf_journal_text.specs.Batches.{has_no_zero}
use Rattle.lf_journal_text.proofs.batch.has_no_zero.Given as goal

abbrev pub invariant-loop-i : goal.invariant-loop-i
invariant-loop-i l = has_no_zero l.i l.bytes ≡ true
