use Rattle.lf_journal_text.proofs.Segments.{intact_read}
use Rattle.lf_journal_text.proofs.laws.batches_are_what_is_read.Goals as goal

pub returns : goal.returns
returns c = intact_read
