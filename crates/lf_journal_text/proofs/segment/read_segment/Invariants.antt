use Rattle.std.proofs.Common.{◌≡◌, ◌-◌, ◌≤◌, length, drop, map}
use Rattle.lf_journal_text.specs.Batches.{batch_size}
use Rattle.lf_journal_text.specs.Views.{log_of}
use Rattle.lf_journal_text.proofs.Segments.{Reads}
use Rattle.lf_journal_text.proofs.segment.read_segment.Given as goal

abbrev pub invariant-loop-size : goal.invariant-loop-size
invariant-loop-size l =
    record {
      within : l.at ≤ length l.bytes;
      size : l.size ≡ batch_size (drop l.at l.bytes);
      reads : Reads l.at (map log_of l.batches.items) l.bytes;
    }

abbrev pub decreases-loop-size : goal.decreases-loop-size
decreases-loop-size l = length l.bytes - l.at
