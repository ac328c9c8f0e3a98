use Rattle.std.proofs.Common.{◌≤◌, length, arith}
use Rattle.lf_frame.proofs.ClaimCounts.{all_bounds_seen}
use Rattle.lf_frame.proofs.KeyLemmas.{reports_next_length, reports_all}
use Rattle.lf_frame.proofs.star_patterns.PatternsAtEnd.claim_on.Goals as goal

pub loop-count-preserved : goal.loop-count-preserved
loop-count-preserved c =
    rw c.merged-claim.ensures (
    reports_next_length c.args.self.now c.args.name.now c.deref-count-items.result.now c.loop-count.count-index c.loop-count.claim c.claim_under.result c.deref-count-items.ensures.value
    c.loop-count-test.true c.loop-count.invariant c.claim_under.ensures
    )

pub returns : goal.returns
returns c = λ bounds h.
    let out : length c.deref-count-items.result.now ≤ c.loop-count.count-index = omega arith in
    let past : length c.args.self.now.lengths.items ≤ c.loop-count.count-index = rw c.deref-count-items.ensures.value at out in
    reports_all c.args.self.now c.args.name.now c.loop-count.claim (rw (all_bounds_seen c.args.self.now.lengths.items c.loop-count.count-index past) at c.loop-count.invariant) bounds h
