use Rattle.std.proofs.Common.{List, subst}
use Rattle.std.proofs.lemmas.Result.{IfOk-weaker}
use Rattle.lf_units.specs.declared.span.Span.{Span}
use Rattle.lf_units.specs.Spans.{IsJoin}
use Rattle.lf_units.proofs.Joins.{join_moved}
use Rattle.lf_units.proofs.join.spans_join.Goals as goal

pub returns : goal.returns
returns c =
    IfOk-weaker c.join_ordered.result (λ joined. IsJoin c.as_slice.result.now joined.items) (λ joined. IsJoin c.args.spans.now joined.items)
    (λ joined j. join_moved c.args.spans.now c.in_ok-sorted.sorted.items joined.items c.in_ok-sorted.ensures.moved
    (subst (λ (xs : List Span). IsJoin xs joined.items) c.as_slice.ensures.value j))
    c.join_ordered.ensures
