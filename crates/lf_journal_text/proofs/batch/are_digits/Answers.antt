use Rattle.std.proofs.Common.{◌+◌, sym, ◌∙◌, refl, inl, inr, arith}
use Rattle.std.proofs.lemmas.Bool.{cases_eq, cases_Bool}
use Rattle.lf_journal_text.specs.Batches.{are_digits}
use Rattle.lf_journal_text.proofs.Reading.{digit_within, all_digits}
use Rattle.lf_journal_text.proofs.batch.are_digits.Goals as goal

pub loop-i-init : goal.loop-i-init
unfolding are_digits
loop-i-init c = refl

pub returns-then-not-is_digit : goal.returns-then-not-is_digit
returns-then-not-is_digit c =
    elim (cases_Bool (are_digits c.args.count c.args.at c.args.bytes.now)) [
      | inl whole ↦ absurd (cc (sym (digit_within c.args.count c.args.at c.args.bytes.now whole c.loop-i.i c.loop-i-test.true) ∙ sym c.is_digit.ensures ∙ c.if-not-is_digit.true))
      | inr torn ↦ sym torn
    ]

pub loop-i-preserved : goal.loop-i-preserved
loop-i-preserved c =
    all_digits (c.loop-i.i + 1) c.args.at c.args.bytes.now (λ k low. elim (cases_eq k c.loop-i.i) [
      | inl same ↦ rw same (sym c.is_digit.ensures ∙ c.if-not-is_digit.false)
      | inr other ↦ digit_within c.loop-i.i c.args.at c.args.bytes.now c.loop-i.invariant k (omega arith)
    ])
