use Rattle.std.proofs.Common.{sym, arith}
use Rattle.lf_journal_text.proofs.Reading.{short_sum}
use Rattle.lf_journal_text.proofs.batch.has_sum.Goals as goal

pub returns-then-bytes-size : goal.returns-then-bytes-size
returns-then-bytes-size c = sym (short_sum c.args.bytes.now (omega (arith, c.announced-size.ensures.value, c.if-bytes-size.true)))
