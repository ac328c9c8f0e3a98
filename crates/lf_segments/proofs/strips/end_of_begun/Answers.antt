use Rattle.std.proofs.Common.{sym}
use Rattle.lf_segments.proofs.OrderLemmas.{begun_more, not_begun_after}
use Rattle.lf_segments.proofs.strips.end_of_begun.Goals as goal

pub returns-then-not-begins_before-clause-rest : goal.returns-then-not-begins_before-clause-rest
returns-then-not-begins_before-clause-rest c =
    not_begun_after c.args.row c.args.team c.args.x.now c.args.strips.now c.requires.strips.order c.requires.strips.wide c.loop-n.n _ c.loop-n-test.true
    (sym c.if-not-begins_before.ensures)

pub loop-n-preserved : goal.loop-n-preserved
loop-n-preserved c =
    begun_more c.args.row c.args.team c.args.x.now c.args.strips.now c.args.first c.loop-n.n _ c.loop-n-test.true c.loop-n.invariant
    (sym c.if-not-begins_before.ensures)
