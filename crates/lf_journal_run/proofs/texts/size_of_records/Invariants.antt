use Rattle.std.proofs.Common.{◌≡◌, ◌+◌, drop, length, map}
use Rattle.lf_journal_text.specs.Records.{entries_text}
use Rattle.lf_journal_text.specs.Views.{entry_of}
use Rattle.lf_journal_run.proofs.texts.size_of_records.Given as goal

abbrev pub invariant-loop-record : goal.invariant-loop-record
invariant-loop-record l =
    l.size + length (entries_text (map entry_of (drop l.record-index l.records))) ≡ length (entries_text (map entry_of l.records))
