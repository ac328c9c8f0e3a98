use Rattle.std.proofs.Common.{take, arith}
use Rattle.lf_frame.proofs.ClaimCounts.{reports_step, one_bound_more, all_bounds_seen}
use Rattle.lf_frame.proofs.star_patterns.claim_by_matching.Goals as goal

pub loop-bound-preserved : goal.loop-bound-preserved
loop-bound-preserved c =
    let item = c.bound-item.result in
    let more = one_bound_more c.args.bounds.now c.loop-bound.bound-index item c.loop-bound-test.true c.bound-item.is in
    rw (← more) (reports_step (take c.loop-bound.bound-index c.args.bounds.now) item c.args.name.now c.loop-bound.claim c.with_bound-claim.result c.with_bound-claim.ensures c.loop-bound.invariant)

pub returns : goal.returns
returns c = rw (all_bounds_seen c.args.bounds.now c.loop-bound.bound-index (omega arith)) at c.loop-bound.invariant
