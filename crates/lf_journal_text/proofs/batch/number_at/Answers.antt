use Rattle.std.proofs.Common.{sym, arith}
use Rattle.lf_journal_text.proofs.Reading.{number_more, number_none, ten_more, ten_small}
use Rattle.lf_journal_text.proofs.batch.number_at.Goals as goal

pub loop-i-init : goal.loop-i-init
loop-i-init c = record { value = sym (number_none c.args.at c.args.bytes.now); small = omega arith }

pub overflow_mul-number : goal.overflow_mul-number
overflow_mul-number c = omega (arith, c.loop-i.invariant.small, ten_small c.loop-i.i (omega (arith, c.loop-i-test.true, c.requires.few)))

pub overflow_add-number : goal.overflow_add-number
overflow_add-number c = omega (arith, c.loop-i.invariant.small, ten_small c.loop-i.i (omega (arith, c.loop-i-test.true, c.requires.few)))

pub loop-i-preserved : goal.loop-i-preserved
loop-i-preserved c =
    record {
      value = omega (arith, number_more c.loop-i.i c.args.at c.args.bytes.now, c.loop-i.invariant.value);
      small = omega (arith, ten_more c.loop-i.i, c.loop-i.invariant.small);
    }
