use Rattle.std.proofs.Common.{refl}
use Rattle.lf_journal_run.proofs.replies.replies_to.Goals as goal

pub returns-clause-writes : goal.returns-clause-writes
returns-clause-writes g c = λ l.
    let serves = rw (c.new-source.ensures.remaining, c.new.ensures.items) at (c.serve-served.ensures.serves l) in
    record { served = c.serve-served.result; ends = refl; unread = _; is_flushed = _; has_failed = _; serves = serves }
