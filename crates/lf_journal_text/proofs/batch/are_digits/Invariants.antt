use Rattle.std.proofs.Common.{◌≡◌, true}
use Rattle.lf_journal_text.specs.Batches.{are_digits}
use Rattle.lf_journal_text.proofs.batch.are_digits.Given as goal

abbrev pub invariant-loop-i : goal.invariant-loop-i
invariant-loop-i l = are_digits l.i l.at l.bytes ≡ true
