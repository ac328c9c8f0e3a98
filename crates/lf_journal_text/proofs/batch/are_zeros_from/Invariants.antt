use Rattle.std.proofs.Common.{◌≡◌, drop}
use Rattle.lf_journal_text.specs.Batches.{are_zeros}
use Rattle.lf_journal_text.proofs.batch.are_zeros_from.Given as goal

abbrev pub invariant-loop-i : goal.invariant-loop-i
invariant-loop-i l = are_zeros (drop l.i l.bytes) ≡ are_zeros (drop l.from l.bytes)
