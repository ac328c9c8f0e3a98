use Rattle.std.proofs.Common.{arith}
use Rattle.lf_repair_bounds.proofs.NearRunLemmas.{nearest_on}
use Rattle.lf_repair_bounds.proofs.near_runs.least_distance.Goals as goal

pub loop-run-preserved : goal.loop-run-preserved
loop-run-preserved c =
    nearest_on c.args.target.now c.args.runs.now c.loop-run.run-index c.loop-run.least _ _ _ c.distance.ensures c.loop-run-test.true
    (omega arith) c.loop-run.invariant
