use Rattle.std.proofs.Common.{◌≡◌, ◌≤◌, ◌+◌, ◌-◌, ◌++◌, [], ◌∷◌, List, Some, None, Err, true, false, option_map, length, take, drop, map, sym, ◌∙◌, ap, subst, arith, length-drop}
use Rattle.std.proofs.lemmas.List.{length-take-le, map-append, take_rest}
use Rattle.lf_journal_text.specs.Batches.{batch_size, is_torn, damage_kind}
use Rattle.lf_journal_text.specs.declared.damage.DamageKind.{DamageKind}
use Rattle.lf_journal_text.specs.Records.{Log, log_in, segment_of}
use Rattle.lf_journal_text.specs.Views.{log_of, Fails}
use Rattle.lf_journal_text.proofs.Reading.{size_within}
use Rattle.lf_journal_text.proofs.Segments.{Reads, reads_first, reads_bad, reads_other, reads_on, reads_end, reads_damage, size_long}
use Rattle.lf_journal_text.proofs.Torn.{long_if_damaged}
use Rattle.lf_journal_text.proofs.segment.read_segment.Goals as goal

pub loop-size-init : goal.loop-size-init
loop-size-init c =
    record {
      within = omega arith;
      size = c.size_of_batch-size.ensures;
      reads = subst (λ (l : List Log). Reads 0 l c.args.bytes.now) (sym (ap (map log_of) c.new-batches.ensures.items)) (reads_first c.args.bytes.now);
    }

pub overflow_add-at-in-loop-size : goal.overflow_add-at-in-loop-size
overflow_add-at-in-loop-size c = omega (arith, c.loop-size.invariant.within, c.loop-size.invariant.size, size_within (drop c.loop-size.at c.args.bytes.now), length-drop c.loop-size.at c.args.bytes.now)

pub slice_bounds-batch_in-end : goal.slice_bounds-batch_in-end
slice_bounds-batch_in-end c = omega (arith, c.loop-size.invariant.within, c.loop-size.invariant.size, size_within (drop c.loop-size.at c.args.bytes.now), length-drop c.loop-size.at c.args.bytes.now)

pub batch_in-requires : goal.batch_in-requires
batch_in-requires c =
    let at = c.loop-size.at in
    let size = c.loop-size.size in
    let bytes = c.args.bytes.now in
    let i = c.loop-size.invariant in
    let long = size_long (drop at bytes) (λ e. c.loop-size-test.true (i.size ∙ e)) in
    let fits : at + size - (at + 1) ≤ length (drop (at + 1) bytes) = omega (arith, i.within, i.size, size_within (drop at bytes), length-drop at bytes, length-drop (at + 1) bytes) in
    omega (arith, length-take-le (at + size - (at + 1)) (drop (at + 1) bytes) fits, long, i.size)

pub returns-in_default : goal.returns-in_default
returns-in_default c =
    let i = c.loop-size.invariant in
    let at = c.loop-size.at in
    let size = c.loop-size.size in
    let bytes = c.args.bytes.now in
    let none : None ≡ log_in (take (at + size - (at + 1)) (drop (at + 1) bytes)) = sym (ap (option_map log_of) c.in_default.is) ∙ c.in_ok-batch.ensures in
    subst (λ e. Fails e (segment_of bytes)) (sym c.damaged.ensures) (reads_bad at size (map log_of c.loop-size.batches.items) bytes i.reads i.size c.loop-size-test.true none)

pub returns-then-not-may_be_at : goal.returns-then-not-may_be_at
returns-then-not-may_be_at c =
    let i = c.loop-size.invariant in
    let at = c.loop-size.at in
    let size = c.loop-size.size in
    let bytes = c.args.bytes.now in
    let found : Some (log_of c.in-Some.batch) ≡ log_in (take (at + size - (at + 1)) (drop (at + 1) bytes)) = sym (ap (option_map log_of) c.in-Some.is) ∙ c.in_ok-batch.ensures in
    let other = c.may_be_at.ensures.other c.if-not-may_be_at.true in
    subst (λ e. Fails e (segment_of bytes)) (sym c.damaged-then-not-may_be_at.ensures)
    (reads_other at size (map log_of c.loop-size.batches.items) bytes i.reads i.size c.loop-size-test.true (log_of c.in-Some.batch) found other.0 other.1)

pub slice_bounds-size_of_batch-count : goal.slice_bounds-size_of_batch-count
slice_bounds-size_of_batch-count c = omega (arith, c.loop-size.invariant.within, c.loop-size.invariant.size, size_within (drop c.loop-size.at c.args.bytes.now), length-drop c.loop-size.at c.args.bytes.now)

pub slice_bounds-size_of_batch-start : goal.slice_bounds-size_of_batch-start
slice_bounds-size_of_batch-start c = omega (arith, c.loop-size.invariant.within, c.loop-size.invariant.size, size_within (drop c.loop-size.at c.args.bytes.now), length-drop c.loop-size.at c.args.bytes.now)

pub loop-size-smaller : goal.loop-size-smaller
loop-size-smaller c = omega (arith, c.loop-size.invariant.within, c.loop-size.invariant.size, size_within (drop c.loop-size.at c.args.bytes.now), length-drop c.loop-size.at c.args.bytes.now, c.loop-size-test.true)

pub loop-size-preserved : goal.loop-size-preserved
loop-size-preserved c =
    let i = c.loop-size.invariant in
    let at = c.loop-size.at in
    let size = c.loop-size.size in
    let bytes = c.args.bytes.now in
    let found : Some (log_of c.in-Some.batch) ≡ log_in (take (at + size - (at + 1)) (drop (at + 1) bytes)) = sym (ap (option_map log_of) c.in-Some.is) ∙ c.in_ok-batch.ensures in
    let one : map log_of c.loop-size.batches.items ++ log_of c.in-Some.batch ∷ [] ≡ map log_of c.push.new.self.items = sym (map-append log_of c.loop-size.batches.items (c.in-Some.batch ∷ [])) ∙ ap (map log_of) (sym c.in_ok-push.ensures.items) in
    record {
      within = omega (arith, i.within, i.size, size_within (drop at bytes), length-drop at bytes);
      size = c.size_of_batch-size-in-loop-size.ensures ∙ ap batch_size (take_rest bytes (at + size));
      reads = subst (λ (l : List Log). Reads (at + size) l bytes) one
          (reads_on at size (map log_of c.loop-size.batches.items) bytes i.reads i.size c.loop-size-test.true (log_of c.in-Some.batch) found (c.may_be_at.ensures.begins c.if-not-may_be_at.false));
    }

pub damage_kind-requires : goal.damage_kind-requires
damage_kind-requires c = long_if_damaged (take (length c.args.bytes.now - c.loop-size.at) (drop c.loop-size.at c.args.bytes.now)) (sym c.is_torn.ensures ∙ c.if-not-is_torn.true)

pub returns-then-not-is_torn : goal.returns-then-not-is_torn
returns-then-not-is_torn c =
    let i = c.loop-size.invariant in
    let at = c.loop-size.at in
    let bytes = c.args.bytes.now in
    let none : batch_size (drop at bytes) ≡ 0 = sym i.size ∙ c.loop-size-test.false in
    let damaged : is_torn (drop at bytes) ≡ false = ap is_torn (sym (take_rest bytes at)) ∙ sym c.is_torn.ensures ∙ c.if-not-is_torn.true in
    let kind : damage_kind (drop at bytes) ≡ c.damage_kind.result = sym (c.damage_kind.ensures ∙ ap damage_kind (take_rest bytes at)) in
    let read : segment_of bytes ≡ Err (record { at = at; kind = c.damage_kind.result }) =
    reads_damage at (map log_of c.loop-size.batches.items) bytes i.reads none damaged ∙ ap (λ (k : DamageKind). Err (record { at = at; kind = k })) kind in
    subst (λ e. Fails e (segment_of bytes)) (sym c.damaged-then-not-is_torn.ensures) read

pub returns : goal.returns
returns c =
    let i = c.loop-size.invariant in
    let at = c.loop-size.at in
    let bytes = c.args.bytes.now in
    let none : batch_size (drop at bytes) ≡ 0 = sym i.size ∙ c.loop-size-test.false in
    let torn : is_torn (drop at bytes) ≡ true = ap is_torn (sym (take_rest bytes at)) ∙ sym c.is_torn.ensures ∙ c.if-not-is_torn.false in
    reads_end at (map log_of c.loop-size.batches.items) bytes i.reads none torn
