use Rattle.std.proofs.Common.{◌≡◌, ◌+◌, ◌*◌, ◌^◌, ◌≤◌}
use Rattle.lf_journal_text.specs.Batches.{number_at}
use Rattle.lf_journal_text.proofs.batch.number_at.Given as goal

abbrev pub invariant-loop-i : goal.invariant-loop-i
invariant-loop-i l = record { value : l.number ≡ number_at l.i l.at l.bytes; small : l.number + 23 ≤ 23 * 10 ^ l.i }
