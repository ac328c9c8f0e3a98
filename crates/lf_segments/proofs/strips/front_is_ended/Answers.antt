use Rattle.std.proofs.Common.{◌∙◌, sym, arith}
use Rattle.lf_segments.proofs.OrderLemmas.{ended_last}
use Rattle.lf_segments.proofs.strips.front_is_ended.Goals as goal

pub returns-then-at-eq0-clause-ended : goal.returns-then-at-eq0-clause-ended
returns-then-at-eq0-clause-ended c = λ t k d less. absurd (omega arith)

pub returns-clause-ended : goal.returns-clause-ended
returns-clause-ended c = λ t.
    ended_last c.args.row c.args.team c.args.x.now c.args.strips.now c.requires.order c.requires.wide c.args.at _ (omega arith) (omega arith)
    (sym c.ends_before.ensures ∙ t)
