use Rattle.std.proofs.Common.{refl, arith}
use Rattle.std.proofs.lemmas.Bool.{false≢true}
use Rattle.lf_units.proofs.Joins.{joins_skip, joins_longer, joins_next, joins_end}
use Rattle.lf_units.proofs.join.join_ordered.Goals as goal

pub loop-span-preserved-then-not-is_filled : goal.loop-span-preserved-then-not-is_filled
loop-span-preserved-then-not-is_filled c =
    joins_skip c.args.spans.now c.loop-span.joined.items c.loop-span.last c.loop-span.span-index _ (omega arith) c.loop-span.invariant
    (λ filled. false≢true (c.if-not-is_filled.ensures.1 filled))

pub loop-span-preserved-then-reaches : goal.loop-span-preserved-then-reaches
loop-span-preserved-then-reaches c =
    let touches = c.if-reaches.ensures.0 refl in
    joins_longer c.args.spans.now c.loop-span.joined.items c.loop-span.last c.longer-last.result c.loop-span.span-index _ (omega arith) c.loop-span.invariant
    touches.0 touches.1 c.longer-last.ensures

pub loop-span-preserved : goal.loop-span-preserved
loop-span-preserved c =
    joins_next c.args.spans.now c.loop-span.joined.items c.push_filled.new.spans.items c.loop-span.last c.loop-span.span-index _ c.requires (omega arith)
    c.loop-span.invariant (c.if-not-is_filled.ensures.0 refl) (λ touches. false≢true (c.if-reaches.ensures.1 touches)) c.in_ok-push_filled.ensures

pub returns : goal.returns
returns c =
    joins_end c.args.spans.now c.loop-span.joined.items c.push_filled-2.new.spans.items c.loop-span.last c.loop-span.span-index (omega arith)
    c.loop-span.invariant c.in_ok-push_filled-2.ensures
