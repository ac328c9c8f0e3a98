use Rattle.std.proofs.Common.{◌≡◌, List, Vec, Global, get_or, ap, sym, subst, ◌∙◌, arith}
use Rattle.lf_units.specs.declared.span.Span.{Span}
use Rattle.lf_units.specs.Spans.{IsMeet, IsRising}
use Rattle.lf_units.proofs.Overlaps.{overlaps_first, overlaps_next, FrontOverlaps}
use Rattle.lf_units.proofs.meet.spans_meet_all.Goals as goal

pub loop-i-init : goal.loop-i-init
loop-i-init c =
    let first : Vec Span Global = c.index-lists-0.result in
    let same : (get_or c.args.lists.now 0 first).items ≡ c.in_ok-overlapping_one.overlapping_one.items =
    ap (λ (v : Vec Span Global). v.items) (sym c.index-lists-0.is) ∙ sym c.as_slice.ensures.value ∙ sym c.in_ok-overlapping_one.ensures.items in
    subst (λ (xs : List Span). FrontOverlaps c.args.lists.now 1 xs) same
    (overlaps_first c.args.lists.now first (omega arith) (c.requires.rising 0 first (omega arith)))

pub spans_meet-requires-clause-second : goal.spans_meet-requires-clause-second
spans_meet-requires-clause-second c =
    let list : Vec Span Global = c.index-lists-i.result in
    let same : (get_or c.args.lists.now c.loop-i.i list).items ≡ c.as_slice-in-loop-i-2.result.now =
    ap (λ (v : Vec Span Global). v.items) (sym c.index-lists-i.is) ∙ sym c.as_slice-in-loop-i-2.ensures.value in
    subst (λ (xs : List Span). IsRising xs) same (c.requires.rising c.loop-i.i list (omega arith))

pub loop-i-preserved : goal.loop-i-preserved
loop-i-preserved c =
    let list : Vec Span Global = c.index-lists-i.result in
    let second : c.as_slice-in-loop-i-2.result.now ≡ (get_or c.args.lists.now c.loop-i.i list).items =
    c.as_slice-in-loop-i-2.ensures.value ∙ ap (λ (v : Vec Span Global). v.items) c.index-lists-i.is in
    let both : IsMeet c.as_slice-in-loop-i.result.now c.as_slice-in-loop-i-2.result.now c.in_ok-overlapping_one-2.overlapping_one.items = c.in_ok-overlapping_one-2.ensures in
    let first : IsMeet c.loop-i.overlapping_one.items c.as_slice-in-loop-i-2.result.now c.in_ok-overlapping_one-2.overlapping_one.items =
    subst (λ (xs : List Span). IsMeet xs c.as_slice-in-loop-i-2.result.now c.in_ok-overlapping_one-2.overlapping_one.items) c.as_slice-in-loop-i.ensures.value both in
    let step : IsMeet c.loop-i.overlapping_one.items (get_or c.args.lists.now c.loop-i.i list).items c.in_ok-overlapping_one-2.overlapping_one.items =
    subst (λ (ys : List Span). IsMeet c.loop-i.overlapping_one.items ys c.in_ok-overlapping_one-2.overlapping_one.items) second first in
    overlaps_next c.args.lists.now c.loop-i.i list c.loop-i.overlapping_one.items c.in_ok-overlapping_one-2.overlapping_one.items (omega arith) c.loop-i.invariant step
