use Rattle.std.proofs.Common.{◌≡◌, ◌+◌, ◌-◌, ◌<◌, ◌≤◌, ℕ, List, ◌∷◌, length, map, drop, sym, ◌∙◌, ap, arith, rules}
use Rattle.std.proofs.lemmas.List.{drop_all, drop_more, length-map}
use Rattle.lf_journal_text.specs.Records.{Log}
use Rattle.lf_journal_text.specs.Views.{entry_of, log_of}
use Rattle.lf_journal_text.specs.declared.segment.Batch.{Batch}
use Rattle.lf_journal_run.specs.Texts.{log_size, logs_size, record_byte}
use Rattle.lf_journal_run.proofs.Places.{byte_here, byte_later, byte_none}
use Rattle.lf_journal_run.proofs.Sizes.{size_more}
use Rattle.lf_journal_run.proofs.texts.record_byte.Goals as goal

pub size_in_front-requires-clause-small : goal.size_in_front-requires-clause-small
size_in_front-requires-clause-small c =
    let i = c.loop-batch.batch-index in
    let bs = c.args.batches.now in
    let b = c.batch-item.result in
    let rest = map log_of (drop (i + 1) bs) in
    let next : map log_of (drop i bs) ≡ log_of b ∷ rest =
    ap (map log_of) (drop_more bs i b c.loop-batch-test.true ∙ ap (λ (m : Batch). m ∷ drop (i + 1) bs) (sym c.batch-item.is)) in
    omega (arith, c.loop-batch.invariant.size, ap logs_size next, size_more (log_of b) rest, c.requires)

pub overflow_add-result : goal.overflow_add-result
overflow_add-result c =
    let i = c.loop-batch.batch-index in
    let bs = c.args.batches.now in
    let b = c.batch-item.result in
    let rest = map log_of (drop (i + 1) bs) in
    let next : map log_of (drop i bs) ≡ log_of b ∷ rest =
    ap (map log_of) (drop_more bs i b c.loop-batch-test.true ∙ ap (λ (m : Batch). m ∷ drop (i + 1) bs) (sym c.batch-item.is)) in
    omega (arith, c.size_in_front.ensures.within, c.loop-batch.invariant.size, ap logs_size next, size_more (log_of b) rest, c.requires)

pub returns-then-left-len : goal.returns-then-left-len
returns-then-left-len c =
    let i = c.loop-batch.batch-index in
    let at = c.loop-batch.at in
    let left = c.loop-batch.left in
    let bs = c.args.batches.now in
    let b = c.batch-item.result in
    let rest = map log_of (drop (i + 1) bs) in
    let next : map log_of (drop i bs) ≡ log_of b ∷ rest =
    ap (map log_of) (drop_more bs i b c.loop-batch-test.true ∙ ap (λ (m : Batch). m ∷ drop (i + 1) bs) (sym c.batch-item.is)) in
    let few : left < length b.records.items = search rules in
    let low : left < length (map entry_of b.records.items) = omega (arith, few, length-map b.records.items entry_of) in
    ap (λ (n : ℕ). at + n) c.size_in_front.ensures.size
    ∙ sym (ap (λ (l : List Log). record_byte left at l) next ∙ byte_here left at (log_of b) rest low)
    ∙ c.loop-batch.invariant.byte

pub size_of_batch-at-requires : goal.size_of_batch-at-requires
size_of_batch-at-requires c =
    let i = c.loop-batch.batch-index in
    let bs = c.args.batches.now in
    let b = c.batch-item.result in
    let rest = map log_of (drop (i + 1) bs) in
    let next : map log_of (drop i bs) ≡ log_of b ∷ rest =
    ap (map log_of) (drop_more bs i b c.loop-batch-test.true ∙ ap (λ (m : Batch). m ∷ drop (i + 1) bs) (sym c.batch-item.is)) in
    omega (arith, c.loop-batch.invariant.size, ap logs_size next, size_more (log_of b) rest, c.requires)

pub overflow_add-at : goal.overflow_add-at
overflow_add-at c =
    let i = c.loop-batch.batch-index in
    let bs = c.args.batches.now in
    let b = c.batch-item.result in
    let rest = map log_of (drop (i + 1) bs) in
    let next : map log_of (drop i bs) ≡ log_of b ∷ rest =
    ap (map log_of) (drop_more bs i b c.loop-batch-test.true ∙ ap (λ (m : Batch). m ∷ drop (i + 1) bs) (sym c.batch-item.is)) in
    omega (arith, c.size_of_batch-at.ensures, c.loop-batch.invariant.size, ap logs_size next, size_more (log_of b) rest, c.requires)

pub loop-batch-preserved : goal.loop-batch-preserved
loop-batch-preserved c =
    let i = c.loop-batch.batch-index in
    let at = c.loop-batch.at in
    let left = c.loop-batch.left in
    let bs = c.args.batches.now in
    let b = c.batch-item.result in
    let es = map entry_of b.records.items in
    let rest = map log_of (drop (i + 1) bs) in
    let next : map log_of (drop i bs) ≡ log_of b ∷ rest =
    ap (map log_of) (drop_more bs i b c.loop-batch-test.true ∙ ap (λ (m : Batch). m ∷ drop (i + 1) bs) (sym c.batch-item.is)) in
    let many : length b.records.items ≤ left = search rules in
    let counted : c.len-left.result ≡ length b.records.items = search rules in
    let past : length es ≤ left = omega (arith, many, length-map b.records.items entry_of) in
    let len : c.len-left.result ≡ length es = omega (arith, counted, length-map b.records.items entry_of) in
    record {
      byte =
          ap (λ (n : ℕ). record_byte (left - n) (at + c.size_of_batch-at.result) rest) len
          ∙ ap (λ (n : ℕ). record_byte (left - length es) (at + n) rest) c.size_of_batch-at.ensures
          ∙ sym (ap (λ (l : List Log). record_byte left at l) next ∙ byte_later left at (log_of b) rest past)
          ∙ c.loop-batch.invariant.byte;
      size = omega (arith, c.size_of_batch-at.ensures, c.loop-batch.invariant.size, ap logs_size next, size_more (log_of b) rest);
    }

pub returns : goal.returns
returns c =
    let i = c.loop-batch.batch-index in
    let bs = c.args.batches.now in
    let none = drop_all i bs (omega (arith, c.loop-batch-test.false)) in
    sym (ap (λ (l : List Batch). record_byte c.loop-batch.left c.loop-batch.at (map log_of l)) none ∙ byte_none c.loop-batch.left c.loop-batch.at)
    ∙ c.loop-batch.invariant.byte
