use Rattle.std.proofs.Common.{◌≡◌, ◌++◌, drop, map}
use Rattle.lf_journal_text.specs.Views.{entry_of}
use Rattle.lf_journal_run.specs.Texts.{replies_text}
use Rattle.lf_journal_run.proofs.texts.put_replies.Given as goal

abbrev pub invariant-loop-record : goal.invariant-loop-record
invariant-loop-record l =
    l.text.items ++ replies_text (map entry_of (drop l.record-index l.records)) ≡ l.fn.text.items ++ replies_text (map entry_of l.records)
