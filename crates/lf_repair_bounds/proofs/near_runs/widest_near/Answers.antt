use Rattle.std.proofs.Common.{arith}
use Rattle.lf_repair_bounds.proofs.NearRunLemmas.{widest_skipped, widest_taken}
use Rattle.lf_repair_bounds.proofs.near_runs.widest_near.Goals.{then-saturating_sub-far, else-saturating_sub-far}
use Rattle.lf_repair_bounds.proofs.near_runs.widest_near.Goals as goal

pub loop-run-preserved : goal.loop-run-preserved
loop-run-preserved c = elim c.if-saturating_sub-far.branch [
  | then-saturating_sub-far w ↦
      widest_taken c.args.target.now c.args.far c.args.runs.now c.least_distance-least.result c.loop-run.run-index c.loop-run.widest _ _ _
      c.distance.ensures c.loop-run-test.true c.least_distance-least.ensures (omega arith) (omega (arith, w.widest-is, w.max-widest.ensures)) c.loop-run.invariant
  | else-saturating_sub-far w ↦
      widest_skipped c.args.target.now c.args.far c.args.runs.now c.least_distance-least.result c.loop-run.run-index c.loop-run.widest _ _ _
      c.distance.ensures c.loop-run-test.true c.least_distance-least.ensures (omega arith) (omega (arith, w.widest-is)) c.loop-run.invariant
]
