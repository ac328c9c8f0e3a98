use Rattle.std.proofs.Common.{map, length}
use Rattle.lf_journal_text.specs.Views.{entry_of}
use Rattle.lf_journal_text.proofs.RecordLists.{ReadsOn}
use Rattle.lf_journal_text.proofs.records.records_of.Given as goal

abbrev pub invariant-loop-rest : goal.invariant-loop-rest
invariant-loop-rest l = ReadsOn (map entry_of l.records.items) l.rest l.bytes

abbrev pub decreases-loop-rest : goal.decreases-loop-rest
decreases-loop-rest l = length l.rest
