use Rattle.std.proofs.Common.{◌≡◌, ◌-◌, ◌<◌, ◌≤ℤ◌, List, length, get_or, map, take, drop, subst, arith}
use Rattle.std.proofs.lemmas.Int.{ints}
use Rattle.std.proofs.lemmas.List.{length-map}
use Rattle.std.proofs.lemmas.Result.{IfOk-weaker}
use Rattle.lf_units.specs.declared.span.Span.{Span}
use Rattle.lf_units.specs.Spans.{IsFree, IsFreeIn}
use Rattle.lf_units.proofs.Windows.{LeavesOut, free_of_near, near_in_order, near_spans, rest_in_order, rest_spans}
use Rattle.lf_units.proofs.window.free_in.Goals as goal

pub count_before-requires-2 : goal.count_before-requires-2
count_before-requires-2 g c = rest_in_order g.T.HasSpan.span c.args.taken.now c.count_before.result c.requires.order

pub free_spans_in-requires : goal.free_spans_in-requires
free_spans_in-requires g c = near_in_order g.T.HasSpan.span c.args.taken.now c.count_before.result c.count_before-2.result c.requires.order

pub returns : goal.returns
returns g c =
    let span = g.T.HasSpan.span in
    let taken = map span c.args.taken.now in
    let range = c.overlap-range.result in
    let f = c.count_before.result in
    let n = c.count_before-2.result in
    let rest = take (length c.args.taken.now - f) (drop f c.args.taken.now) in
    let reach = c.overlap-range.ensures.second in
    let same : map span rest ≡ drop f taken = rest_spans span c.args.taken.now f in
    let near : map span (take n rest) ≡ take n (drop f taken) = near_spans span c.args.taken.now f n in
    let leaves : LeavesOut range taken f n c.args.widest = record {
      wide = c.requires.wide;
      before = λ k d less. let h = c.count_before.ensures.before k d less in omega (arith, ints, h, reach.low);
      after_it = λ k d from within.
          let h = c.count_before-2.ensures.after_it k d from in
          (subst (λ (xs : List Span). k < length xs → range.hi ≤ℤ (get_or xs k d).lo) same
          (λ inside. let b = h (omega (arith, inside, length-map rest span)) in omega (arith, ints, b))) within;
    } in
    IfOk-weaker c.free_spans_in.result (λ free. IsFree range (map span (take n rest)) free.items)
    (λ free. IsFreeIn c.args.segment.now taken c.args.window.now free.items)
    (λ free h.
    free_of_near c.args.segment.now c.args.window.now range taken free.items f n c.args.widest c.overlap-range.ensures leaves
    (subst (λ (xs : List Span). IsFree range xs free.items) near h))
    c.free_spans_in.ensures
