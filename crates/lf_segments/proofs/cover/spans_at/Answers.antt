use Rattle.std.proofs.Common.{refl, List, ◌+◌, take, ap, sym, subst, ◌∙◌, ◌∷◌, ◌++◌, [], arith}
use Rattle.std.proofs.lemmas.Bool.{false≢true}
use Rattle.std.proofs.lemmas.List.{take_all}
use Rattle.lf_units.specs.declared.span.Span.{Span}
use Rattle.lf_units.specs.declared.placed.Placed.{Placed}
use Rattle.lf_segments.specs.Boxes.{AreSpansAt}
use Rattle.lf_segments.proofs.CoverLemmas.{spans_more, spans_skip}
use Rattle.lf_segments.proofs.cover.spans_at.Goals as goal

pub loop-placed-preserved-then-not-reaches : goal.loop-placed-preserved-then-not-reaches
loop-placed-preserved-then-not-reaches c =
    spans_skip c.args.boxes.now c.loop-placed.placed-index _ c.args.y.now c.loop-placed.spans.items (omega arith) c.loop-placed.invariant
    (λ both. false≢true (c.if-not-reaches.ensures.1 both))

pub loop-placed-preserved : goal.loop-placed-preserved
loop-placed-preserved c =
    let reached = c.if-not-reaches.ensures.0 refl in
    let at = AreSpansAt (take (c.loop-placed.placed-index + 1) c.args.boxes.now) c.args.y.now in
    let pushed = c.in_ok-push.ensures.items ∙ ap (λ (s : Span). c.loop-placed.spans.items ++ s ∷ []) c.span_of.ensures in
    subst at (sym pushed)
    (spans_more c.args.boxes.now c.loop-placed.placed-index _ c.args.y.now c.loop-placed.spans.items (omega arith) c.loop-placed.invariant reached.0 reached.1)

pub returns : goal.returns
returns c =
    let all = take_all c.loop-placed.placed-index c.args.boxes.now (omega arith) in
    subst (λ (boxes : List Placed). AreSpansAt boxes c.args.y.now c.loop-placed.spans.items) all c.loop-placed.invariant
