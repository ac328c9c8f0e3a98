use Rattle.std.proofs.Common.{arith}
use Rattle.lf_journal_text.proofs.Reading.{batch_long}
use Rattle.lf_journal.proofs.journal.Journal.put.Goals as goal

pub grow-requires-clause-near : goal.grow-requires-clause-near
grow-requires-clause-near g c = omega (arith, c.loop-self-test.true, (batch_long c.args.batch.now c.requires.batch).1)
