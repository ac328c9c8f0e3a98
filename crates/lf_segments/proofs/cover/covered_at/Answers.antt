use Rattle.std.proofs.Common.{List, subst}
use Rattle.std.proofs.lemmas.Result.{IfOk-weaker}
use Rattle.lf_units.specs.declared.span.Span.{Span}
use Rattle.lf_units.specs.Spans.{IsJoin, IsMeet}
use Rattle.lf_segments.specs.Boxes.{IsCoveredAt}
use Rattle.lf_segments.proofs.CoverLemmas.{covered_of}
use Rattle.lf_segments.proofs.cover.covered_at.Goals as goal

pub returns : goal.returns
returns c =
    let spans = c.in_ok-spans_at.field-0.items in
    let joined = c.in_ok-joined.joined.items in
    let whole = subst (λ (xs : List Span). IsJoin xs joined) c.as_slice.ensures.value c.in_ok-joined.ensures in
    IfOk-weaker c.spans_meet.result (λ overlapping_one. IsMeet c.args.free.now c.as_slice-2.result.now overlapping_one.items)
    (λ overlapping_one. IsCoveredAt c.args.boxes.now c.args.y.now c.args.free.now overlapping_one.items)
    (λ overlapping_one m.
    covered_of c.args.boxes.now c.args.y.now c.args.free.now spans joined overlapping_one.items c.in_ok-spans_at.ensures whole
    (subst (λ (xs : List Span). IsMeet c.args.free.now xs overlapping_one.items) c.as_slice-2.ensures.value m))
    c.spans_meet.ensures
