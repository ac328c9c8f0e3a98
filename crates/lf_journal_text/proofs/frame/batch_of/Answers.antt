use Rattle.std.proofs.Common.{sym, subst}
use Rattle.lf_journal_text.specs.Batches.{IsBatch}
use Rattle.lf_journal_text.proofs.Framing.{framed_text}
use Rattle.lf_journal_text.proofs.frame.batch_of.Goals as goal

pub returns-clause-batch : goal.returns-clause-batch
returns-clause-batch c = subst IsBatch (sym c.in_ok-batch.ensures) (framed_text c.args.time c.args.records.now c.requires.time c.requires.some c.requires.small c.requires.nonzero)
