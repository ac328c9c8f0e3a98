use Rattle.std.proofs.Common.{arith}
use Rattle.lf_units.proofs.Leasts.{least_one_more}
use Rattle.lf_units.proofs.least_overlapping.least_in.Goals as goal

pub loop-placed-preserved : goal.loop-placed-preserved
loop-placed-preserved c =
    least_one_more c.args.boxes.now c.loop-placed.placed-index _ c.args.rect.now c.args.but c.args.so_far c.loop-placed.least c.lesser-least.result
    (omega arith) c.loop-placed.invariant c.lesser-least.ensures
