use Rattle.std.proofs.Common.{sym, arith}
use Rattle.lf_segments.proofs.OrderLemmas.{not_ended_after}
use Rattle.lf_segments.proofs.strips.rest_is_not_ended.Goals as goal

pub returns-then-strips-at : goal.returns-then-strips-at
returns-then-strips-at c = λ t k d from within. absurd (omega arith)

pub returns : goal.returns
returns c = λ t.
    not_ended_after c.args.row c.args.team c.args.x.now c.args.strips.now c.requires.order c.requires.wide c.args.at _ (omega arith)
    (sym c.if-ends_before.ensures)
