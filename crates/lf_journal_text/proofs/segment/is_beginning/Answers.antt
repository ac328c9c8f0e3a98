use Rattle.std.proofs.Common.{sym, ◌∙◌}
use Rattle.lf_journal_text.proofs.Segments.{one_record}
use Rattle.lf_journal_text.proofs.segment.is_beginning.Goals as goal

pub returns : goal.returns
returns c = c.has_title.ensures ∙ sym (one_record c.args.records.now _ c.if-records-ne1.false)
