use Rattle.std.proofs.Common.{◌≡◌, ◌+◌, drop, map}
use Rattle.lf_journal_text.specs.Views.{log_of}
use Rattle.lf_journal_run.specs.Texts.{logs_size, record_byte}
use Rattle.lf_journal_run.proofs.texts.record_byte.Given as goal

abbrev pub invariant-loop-batch : goal.invariant-loop-batch
invariant-loop-batch l = record {
  byte : record_byte l.left l.at (map log_of (drop l.batch-index l.batches)) ≡ record_byte l.number 0 (map log_of l.batches);
  size : l.at + logs_size (map log_of (drop l.batch-index l.batches)) ≡ logs_size (map log_of l.batches);
}
