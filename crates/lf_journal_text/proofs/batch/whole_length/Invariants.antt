use Rattle.std.proofs.Common.{◌≡◌, ◌-◌, ◌≤◌, length, take, drop}
use Rattle.lf_journal_text.specs.Batches.{batch_size, EndsWhole}
use Rattle.lf_journal_text.proofs.batch.whole_length.Given as goal

abbrev pub invariant-loop-size : goal.invariant-loop-size
invariant-loop-size l = record { within : l.end ≤ length l.bytes; text : EndsWhole (take l.end l.bytes); size : l.size ≡ batch_size (drop l.end l.bytes) }

abbrev pub decreases-loop-size : goal.decreases-loop-size
decreases-loop-size l = length l.bytes - l.end
