use Rattle.lf_journal_text.proofs.RecordLists.{entries_again}
use Rattle.lf_journal_text.proofs.laws.records_read_back.Goals as goal

pub returns : goal.returns
returns c = entries_again
