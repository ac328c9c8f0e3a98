use Rattle.std.proofs.Common.{◌≡◌, ◌<◌, ◌^◌, drop}
use Rattle.lf_journal_text.specs.Batches.{sum_from}
use Rattle.lf_journal_text.proofs.batch.sum_from.Given as goal

abbrev pub invariant-loop-byte : goal.invariant-loop-byte
invariant-loop-byte l = record { rest : sum_from l.sum (drop l.byte-index l.bytes) ≡ sum_from l.so_far l.bytes; small : l.sum < 2 ^ 32 }
