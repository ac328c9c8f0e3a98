use Rattle.std.proofs.Common.{◌≡◌, ◌+◌, ◌∙◌, sym, take, true, slice_index_or, arith}
use Rattle.std.specs.Char.{is_ascii_digit}
use Rattle.std.specs.Str.Parse.{digits_value}
use Rattle.lf_write.proofs.Digits.{Digits, digits_more, value_more, written}
use Rattle.lf_write.proofs.compare.number_len.Goals as goal

pub returns-then-total-number-clause-number : goal.returns-then-total-number-clause-number
returns-then-total-number-clause-number c =
    let bytes = c.args.bytes.now in
    let at = c.loop-at.at in
    let digit : is_ascii_digit (slice_index_or bytes at 0) ≡ true = sym c.is_ascii_digit.ensures.value ∙ c.if-not-is_ascii_digit.false in
    let all : Digits (take (at + 1) bytes) = digits_more bytes at c.loop-at-test.true c.loop-at.invariant.digits digit in
    let value : digits_value 10 (take (at + 1) bytes) ≡ c.args.number = omega (arith, value_more bytes at c.loop-at-test.true digit, c.loop-at.invariant.total) in
    written bytes at c.args.number c.loop-at-test.true c.if-bytes-eq48.false all value c.requires

pub loop-at-preserved : goal.loop-at-preserved
loop-at-preserved c =
    let bytes = c.args.bytes.now in
    let at = c.loop-at.at in
    let digit : is_ascii_digit (slice_index_or bytes at 0) ≡ true = sym c.is_ascii_digit.ensures.value ∙ c.if-not-is_ascii_digit.false in
    record {
      digits = digits_more bytes at c.loop-at-test.true c.loop-at.invariant.digits digit;
      total = omega (arith, value_more bytes at c.loop-at-test.true digit, c.loop-at.invariant.total);
      small = omega arith;
    }
