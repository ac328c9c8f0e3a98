use Rattle.std.proofs.Common.{arith}
use Rattle.lf_repair_bounds.proofs.StripRunLemmas.{covered_all, covered_more, covered_moved}
use Rattle.lf_repair_bounds.proofs.free_runs.blocked_sites.Goals as goal

pub loop-placed-preserved : goal.loop-placed-preserved
loop-placed-preserved c =
    covered_more c.args.row.now.x c.args.step c.args.area.now c.args.boxes.now c.loop-placed.placed-index _ c.loop-placed.ranges.items _ _
    c.covered_sites.ensures c.loop-placed-test.true c.in_ok-push.ensures.items c.loop-placed.invariant

pub returns-clause-covered : goal.returns-clause-covered
returns-clause-covered c =
    covered_moved c.args.row.now.x c.args.step c.args.area.now c.args.boxes.now c.loop-placed.ranges.items _ c.sort_ranges.ensures.same
    (covered_all c.args.row.now.x c.args.step c.args.area.now c.args.boxes.now c.loop-placed.placed-index c.loop-placed.ranges.items
    (omega (arith, c.loop-placed-test.false)) c.loop-placed.invariant)
