use Rattle.std.proofs.Common.{List, subst, sym}
use Rattle.std.proofs.lemmas.List.{map-id}
use Rattle.std.proofs.lemmas.Result.{IfOk-weaker}
use Rattle.lf_units.specs.declared.span.Span.{Span}
use Rattle.lf_units.specs.Spans.{IsFree, IsInOrder, IsMeet, IsMinus}
use Rattle.lf_units.proofs.Frees.{minus_of}
use Rattle.lf_units.proofs.Orders.{in_order_of_rising}
use Rattle.lf_units.proofs.minus.spans_minus.Goals as goal

pub free_spans_in-requires : goal.free_spans_in-requires
free_spans_in-requires c = subst IsInOrder (sym (map-id c.args.b.now)) (in_order_of_rising c.args.b.now c.requires.second)

pub returns : goal.returns
returns c =
    IfOk-weaker c.spans_meet.result (λ left. IsMeet c.args.a.now c.as_slice.result.now left.items) (λ left. IsMinus c.args.a.now c.args.b.now left.items)
    (λ left m. minus_of _ c.args.a.now c.args.b.now c.in_ok-free.free.items left.items
    (subst (λ (xs : List Span). IsFree c.range_of.result xs c.in_ok-free.free.items) (map-id c.args.b.now) c.in_ok-free.ensures)
    (subst (λ (xs : List Span). IsMeet c.args.a.now xs left.items) c.as_slice.ensures.value m) c.range_of.ensures)
    c.spans_meet.ensures
