use Rattle.std.proofs.Common.{List, subst}
use Rattle.std.proofs.lemmas.Result.{IfOk-weaker}
use Rattle.lf_units.specs.declared.placed.Placed.{Placed}
use Rattle.lf_segments.specs.Soft.{AreOverlappedSpans, AreSoftIn}
use Rattle.lf_segments.proofs.SoftLemmas.{soft_of}
use Rattle.lf_segments.proofs.soft_spans.soft_in.Goals as goal

pub returns : goal.returns
returns c =
    let area = c.args.area.now in
    let near = c.find_overlapping.new.found.items in
    IfOk-weaker c.spans_overlapped.result (λ spans. AreOverlappedSpans area c.as_slice.result.now spans.items) (λ spans. AreSoftIn c.args.frame.now area spans.items)
    (λ spans m.
    soft_of c.args.frame.now area c.args.tree.now near spans.items c.requires.tree c.in_ok-find_overlapping.ensures
    (subst (λ (xs : List Placed). AreOverlappedSpans area xs spans.items) c.as_slice.ensures.value m))
    c.spans_overlapped.ensures
