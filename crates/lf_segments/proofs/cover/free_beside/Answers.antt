use Rattle.std.proofs.Common.{map, List, subst, sym}
use Rattle.std.proofs.lemmas.List.{map-id}
use Rattle.std.proofs.lemmas.Result.{IfOk-weaker}
use Rattle.lf_units.specs.declared.span.Span.{Span}
use Rattle.lf_units.specs.Spans.{IsFree, IsInOrder}
use Rattle.lf_segments.specs.Boxes.{x_extent}
use Rattle.lf_segments.proofs.CoverLemmas.{free_moved}
use Rattle.lf_segments.proofs.cover.free_beside.Goals as goal

pub free_spans_in-requires : goal.free_spans_in-requires
free_spans_in-requires c =
    subst IsInOrder (sym (map-id c.as_slice.result.now)) (subst IsInOrder (sym c.as_slice.ensures.value) c.in_ok-taken.ensures.order)

pub returns : goal.returns
returns c =
    let borrowed_view = c.as_slice.result.now in
    let taken = map (λ p. x_extent p.rect) c.args.boxes.now in
    IfOk-weaker c.free_spans_in.result (λ free. IsFree c.span_of.result (map (λ s. s) borrowed_view) free.items)
    (λ free. IsFree (x_extent c.args.area.now) taken free.items)
    (λ free f.
    free_moved (x_extent c.args.area.now) taken c.in_ok-taken.taken.items free.items c.in_ok-taken.ensures.moved
    (subst (λ (s : Span). IsFree s c.in_ok-taken.taken.items free.items) c.span_of.ensures
    (subst (λ (xs : List Span). IsFree c.span_of.result xs free.items) c.as_slice.ensures.value
    (subst (λ (xs : List Span). IsFree c.span_of.result xs free.items) (map-id borrowed_view) f))))
    c.free_spans_in.ensures
