use Rattle.std.proofs.Common.{◌≡◌, ◌+◌, ◌*◌, ◌%◌, ℕ, drop, slice_index, sym, ◌∙◌, ap, arith}
use Rattle.lf_journal_text.specs.Batches.{sum_from}
use Rattle.lf_journal_text.proofs.Reading.{sum_step, sum_end}
use Rattle.lf_journal_text.proofs.batch.sum_from.Goals as goal

pub loop-byte-preserved : goal.loop-byte-preserved
loop-byte-preserved c =
    let xs = c.args.bytes.now in
    let i = c.loop-byte.byte-index in
    let total : c.from.result * 256 + c.from-in-loop-byte.result ≡ c.loop-byte.sum * 256 + slice_index xs i = omega (arith, c.from.ensures, c.from-in-loop-byte.ensures) in
    record {
      rest = ap (λ (n : ℕ). sum_from (n % 4294967291) (drop (i + 1) xs)) total ∙ sym (sum_step c.loop-byte.sum i xs (omega arith)) ∙ c.loop-byte.invariant.rest;
      small = omega arith;
    }

pub returns : goal.returns
returns c = sym (sum_end c.loop-byte.sum c.loop-byte.byte-index c.args.bytes.now (omega arith)) ∙ c.loop-byte.invariant.rest
