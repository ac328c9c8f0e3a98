use Rattle.std.proofs.Common.{◌+◌, sym, ap, ◌∙◌, arith}
use Rattle.std.proofs.lemmas.List.{take_rest}
use Rattle.lf_journal_text.specs.Batches.{batch_size, StopsAt}
use Rattle.lf_journal_text.proofs.Reading.{ends_nil, step, stops}
use Rattle.lf_journal_text.proofs.batch.whole_length.Goals as goal

pub loop-size-init : goal.loop-size-init
loop-size-init c = record { within = omega arith; text = ends_nil; size = c.size_of_batch-size.ensures }

pub overflow_add-end : goal.overflow_add-end
overflow_add-end c =
    let i = c.loop-size.invariant in
    let next = step c.loop-size.end c.loop-size.size c.args.bytes.now i.within i.text c.loop-size-test.true i.size in
    omega (arith, next.0)

pub slice_bounds-size_of_batch-count : goal.slice_bounds-size_of_batch-count
slice_bounds-size_of_batch-count c =
    let i = c.loop-size.invariant in
    let next = step c.loop-size.end c.loop-size.size c.args.bytes.now i.within i.text c.loop-size-test.true i.size in
    omega (arith, next.0)

pub slice_bounds-size_of_batch-start : goal.slice_bounds-size_of_batch-start
slice_bounds-size_of_batch-start c =
    let i = c.loop-size.invariant in
    let next = step c.loop-size.end c.loop-size.size c.args.bytes.now i.within i.text c.loop-size-test.true i.size in
    omega (arith, next.0)

pub loop-size-smaller : goal.loop-size-smaller
loop-size-smaller c =
    let i = c.loop-size.invariant in
    let next = step c.loop-size.end c.loop-size.size c.args.bytes.now i.within i.text c.loop-size-test.true i.size in
    omega (arith, next.0, c.loop-size-test.true)

pub loop-size-preserved : goal.loop-size-preserved
loop-size-preserved c =
    let i = c.loop-size.invariant in
    let next = step c.loop-size.end c.loop-size.size c.args.bytes.now i.within i.text c.loop-size-test.true i.size in
    record {
      within = next.0;
      text = next.1;
      size = c.size_of_batch-size-in-loop-size.ensures ∙ ap batch_size (take_rest c.args.bytes.now (c.loop-size.end + c.loop-size.size));
    }

pub returns-clause-end : goal.returns-clause-end
returns-clause-end c =
    let i = c.loop-size.invariant in
    let stop : StopsAt c.loop-size.end c.args.bytes.now = record { within = i.within; text = i.text; none = sym i.size ∙ c.loop-size-test.false } in
    sym (stops c.loop-size.end c.args.bytes.now stop).1
