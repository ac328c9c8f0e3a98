use Rattle.lf_journal_text.specs.Records.{batch_text}
use Rattle.lf_journal_text.proofs.Framing.{framed, time_there, payload_there}
use Rattle.lf_journal_text.proofs.laws.batches_read_back.Goals as goal

pub returns : goal.returns
unfolding batch_text
returns c time records early some small nonzero =
    (framed time records early some small nonzero, (time_there time records early some small nonzero).1, payload_there time records early some small nonzero)
