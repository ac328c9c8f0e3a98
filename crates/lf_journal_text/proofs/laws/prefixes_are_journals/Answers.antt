use Rattle.lf_journal_text.proofs.Segments.{prefix_of_read}
use Rattle.lf_journal_text.proofs.laws.prefixes_are_journals.Goals as goal

pub returns : goal.returns
returns c = prefix_of_read
