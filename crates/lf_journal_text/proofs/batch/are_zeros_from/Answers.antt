use Rattle.std.proofs.Common.{sym, ◌∙◌, drop, inl, inr, arith}
use Rattle.std.proofs.lemmas.Bool.{cases_Bool}
use Rattle.lf_journal_text.specs.Batches.{are_zeros}
use Rattle.lf_journal_text.proofs.Torn.{zeros_behind, zeros_step, zeros_end}
use Rattle.lf_journal_text.proofs.batch.are_zeros_from.Goals as goal

pub returns-then-bytes-i-ne0 : goal.returns-then-bytes-i-ne0
returns-then-bytes-i-ne0 c =
    elim (cases_Bool (are_zeros (drop c.loop-i.i c.args.bytes.now))) [
      | inl all ↦ absurd (omega (arith, c.if-bytes-i-ne0.true, zeros_behind c.loop-i.i c.args.bytes.now all c.loop-i.i (omega arith)))
      | inr some ↦ sym some ∙ c.loop-i.invariant
    ]

pub loop-i-preserved : goal.loop-i-preserved
loop-i-preserved c = sym (zeros_step c.loop-i.i c.args.bytes.now (omega arith) (omega arith)) ∙ c.loop-i.invariant

pub returns : goal.returns
returns c = sym (zeros_end c.loop-i.i c.args.bytes.now (omega arith)) ∙ c.loop-i.invariant
