use Rattle.std.proofs.Common.{arith}
use Rattle.lf_units.proofs.TreeBounds.{bounds_more}
use Rattle.lf_units.proofs.bounds_above.bound_of.Goals as goal

pub loop-placed-preserved : goal.loop-placed-preserved
loop-placed-preserved c =
    bounds_more c.loop-placed.bound c.joined-bound.result c.args.boxes.now c.loop-placed.placed-index _ (omega arith)
    c.loop-placed.invariant (c.joined-bound.ensures.the_others _ c.of.ensures) c.joined-bound.ensures.the_same
