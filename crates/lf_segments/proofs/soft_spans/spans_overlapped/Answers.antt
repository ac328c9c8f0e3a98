use Rattle.std.proofs.Common.{List, [], ◌∷◌, map, subst}
use Rattle.std.proofs.lemmas.Result.{IfOk-weaker}
use Rattle.lf_units.specs.declared.span.Span.{Span}
use Rattle.lf_units.specs.Spans.{IsJoin, IsMeet}
use Rattle.lf_units.specs.declared.placed.Placed.{Placed}
use Rattle.lf_segments.specs.Boxes.{x_extent}
use Rattle.lf_segments.specs.Soft.{AreOverlappedSpans}
use Rattle.lf_segments.proofs.SoftLemmas.{spans_overlapped_of}
use Rattle.lf_segments.proofs.soft_spans.spans_overlapped.Goals as goal

pub returns : goal.returns
returns c =
    let area = c.args.area.now in
    let boxes = c.args.boxes.now in
    let joined = c.in_ok-joined.joined.items in
    let whole : IsJoin (map (λ (p : Placed). x_extent p.rect) boxes) joined =
    subst (λ (xs : List Span). IsJoin xs joined) c.in_ok-spans_of.ensures (subst (λ (xs : List Span). IsJoin xs joined) c.as_slice.ensures.value c.in_ok-joined.ensures) in
    IfOk-weaker c.spans_meet.result (λ overlapping_one. IsMeet (c.span_of.result ∷ []) c.as_slice-2.result.now overlapping_one.items) (λ overlapping_one. AreOverlappedSpans area boxes overlapping_one.items)
    (λ overlapping_one m.
    spans_overlapped_of area boxes joined overlapping_one.items whole
    (subst (λ (s : Span). IsMeet (s ∷ []) joined overlapping_one.items) c.span_of.ensures
    (subst (λ (xs : List Span). IsMeet (c.span_of.result ∷ []) xs overlapping_one.items) c.as_slice-2.ensures.value m)))
    c.spans_meet.ensures
