use Rattle.std.proofs.Common.{arith}
use Rattle.lf_units.proofs.Nears.{adds_one_more}
use Rattle.lf_units.proofs.overlapping.push_near_of_all.Goals as goal

pub loop-placed-preserved : goal.loop-placed-preserved
loop-placed-preserved c =
    adds_one_more c.args.boxes.now c.loop-placed.placed-index _ c.args.rect.now c.args.found.now.items c.loop-placed.found.items c.push_near.new.found.items
    (omega arith) c.loop-placed.invariant c.in_ok-push_near.ensures
