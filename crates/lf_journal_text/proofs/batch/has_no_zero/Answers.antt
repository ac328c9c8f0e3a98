use Rattle.std.proofs.Common.{◌+◌, sym, refl, inl, inr, arith}
use Rattle.std.proofs.lemmas.Bool.{cases_eq, cases_Bool}
use Rattle.lf_journal_text.specs.Batches.{has_no_zero}
use Rattle.lf_journal_text.proofs.Reading.{nonzero, all_nonzero}
use Rattle.lf_journal_text.proofs.batch.has_no_zero.Goals as goal

pub loop-i-init : goal.loop-i-init
unfolding has_no_zero
loop-i-init c = refl

pub returns-then-bytes-i-eq0 : goal.returns-then-bytes-i-eq0
returns-then-bytes-i-eq0 c =
    elim (cases_Bool (has_no_zero c.args.count c.args.bytes.now)) [
      | inl whole ↦ absurd (omega (arith, c.if-bytes-i-eq0.true, nonzero c.args.count c.args.bytes.now whole c.loop-i.i c.loop-i-test.true))
      | inr torn ↦ sym torn
    ]

pub loop-i-preserved : goal.loop-i-preserved
loop-i-preserved c =
    all_nonzero (c.loop-i.i + 1) c.args.bytes.now (λ k low. elim (cases_eq k c.loop-i.i) [
      | inl same ↦ rw same (omega arith)
      | inr other ↦ nonzero c.loop-i.i c.args.bytes.now c.loop-i.invariant k (omega arith)
    ])
