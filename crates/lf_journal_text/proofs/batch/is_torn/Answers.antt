use Rattle.std.proofs.Common.{sym, ◌∙◌, arith}
use Rattle.lf_journal_text.proofs.Torn.{short_torn, short_body}
use Rattle.lf_journal_text.proofs.batch.is_torn.Goals as goal

pub returns-then-bytes-lt-HEADER : goal.returns-then-bytes-lt-HEADER
returns-then-bytes-lt-HEADER c = sym (short_torn c.args.bytes.now (omega arith))

pub returns-then-bytes-size : goal.returns-then-bytes-size
returns-then-bytes-size c =
    sym (short_body c.args.bytes.now (sym c.has_no_zero.ensures ∙ c.if-not-has_no_zero.false) (sym c.has_lengths.ensures ∙ c.if-not-has_lengths.false) (sym c.has_time.ensures ∙ c.if-not-has_time.false)
    (omega (arith, c.announced-size.ensures.value, c.if-bytes-size.true)))
