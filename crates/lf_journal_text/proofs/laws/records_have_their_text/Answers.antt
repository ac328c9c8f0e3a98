use Rattle.std.proofs.Common.{length}
use Rattle.lf_journal_text.specs.Records.{entries_of}
use Rattle.lf_journal_text.proofs.RecordLists.{entries_said}
use Rattle.lf_journal_text.proofs.laws.records_have_their_text.Goals as goal

pub returns : goal.returns
unfolding entries_of
returns c bytes entries is = entries_said (length bytes) bytes entries is
