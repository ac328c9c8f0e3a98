use Rattle.std.proofs.Common.{refl, arith}
use Rattle.lf_gaps.proofs.Nearest.{found_in_front, found_more, found_all}
use Rattle.lf_gaps.proofs.row.nearest_rightwards.Goals as goal

pub returns-then-is_past : goal.returns-then-is_past
returns-then-is_past c =
    found_in_front c.args.spans.now c.args.grid.now c.args.wanted.now.width c.args.wanted.now.target c.loop-span.span-index _ c.loop-span.best
    c.requires.rising (omega arith)
    c.loop-span.invariant (c.if-is_past.ensures refl)

pub loop-span-preserved : goal.loop-span-preserved
loop-span-preserved c =
    found_more c.args.spans.now c.args.grid.now c.args.wanted.now.width c.args.wanted.now.target c.loop-span.span-index _ c.loop-span.best
    c.nearest_in_span.result
    c.nearer_of-best.result (omega arith) c.loop-span.invariant c.nearest_in_span.ensures c.nearer_of-best.ensures

pub returns : goal.returns
returns c =
    found_all c.args.spans.now c.args.grid.now c.args.wanted.now.width c.args.wanted.now.target c.loop-span.span-index c.loop-span.best (omega arith)
    c.loop-span.invariant
