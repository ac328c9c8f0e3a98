use Rattle.std.proofs.Common.{arith, ◌≤◌, sym, ◌∙◌}
use Rattle.lf_state_text.proofs.Fronts.{digits-more, few-value, value-more}
use Rattle.lf_state_text.proofs.read_numbers.front_digits.Goals as goal

pub overflow_mul-value : goal.overflow_mul-value
overflow_mul-value c =
    let few : c.loop-len.len ≤ 10 = omega arith in
    omega (arith, few-value c.args.bytes.now c.loop-len.len c.loop-len.invariant.digits few)

pub overflow_add-value : goal.overflow_add-value
overflow_add-value c =
    let few : c.loop-len.len ≤ 10 = omega arith in
    omega (arith, few-value c.args.bytes.now c.loop-len.len c.loop-len.invariant.digits few)

pub loop-len-preserved : goal.loop-len-preserved
loop-len-preserved c =
    let digit = sym c.is_ascii_digit.ensures.value ∙ c.if-not-is_ascii_digit.false in
    record {
      digits = digits-more c.args.bytes.now c.loop-len.len c.loop-len.invariant.digits (omega arith) digit;
      value = omega (arith, value-more c.args.bytes.now c.loop-len.len (omega arith) digit);
    }
