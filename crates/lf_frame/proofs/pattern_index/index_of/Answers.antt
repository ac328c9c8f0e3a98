use Rattle.std.proofs.Common.{take, arith}
use Rattle.lf_frame.specs.Claims.{all_bounds}
use Rattle.lf_frame.proofs.ClaimCounts.{all_bounds_seen}
use Rattle.lf_frame.proofs.Claimants.{bounds_more, bounds_by_number}
use Rattle.lf_frame.proofs.pattern_index.index_of.Goals as goal

pub loop-group-preserved : goal.loop-group-preserved
loop-group-preserved c = λ regions numbered.
    let groups = c.args.groups.now in
    let i = c.loop-group.group-index in
    let item = c.group-item.result in
    let own = bounds_by_number regions c.args.numbers.now item numbered in
    let more = bounds_more regions groups i item c.loop-group-test.true c.group-item.is in
    rw more (rw own at (c.in_ok-add_group.ensures (all_bounds regions (take i groups)) (c.loop-group.invariant regions numbered)))

pub returns : goal.returns
returns c = λ regions numbered. rw (all_bounds_seen c.args.groups.now c.loop-group.group-index (omega arith)) at (c.loop-group.invariant regions numbered)
