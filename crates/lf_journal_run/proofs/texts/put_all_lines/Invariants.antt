use Rattle.std.proofs.Common.{◌≡◌, ◌++◌, drop, map}
use Rattle.lf_journal_text.specs.Views.{log_of}
use Rattle.lf_journal_run.specs.Texts.{entries_in, lines_text}
use Rattle.lf_journal_run.proofs.texts.put_all_lines.Given as goal

abbrev pub invariant-loop-batch : goal.invariant-loop-batch
invariant-loop-batch l =
    l.text.items ++ lines_text (entries_in (map log_of (drop l.batch-index l.batches))) ≡ l.fn.text.items ++ lines_text (entries_in (map log_of l.batches))
