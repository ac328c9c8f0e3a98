use Rattle.lf_frame.specs.Sweep.{fence_pieces}
use Rattle.lf_frame.proofs.Pieces.{hold_more}
use Rattle.lf_frame.proofs.fence_checks.fence_pieces.Goals as goal

pub loop-number-preserved : goal.loop-number-preserved
loop-number-preserved c =
    hold_more fence_pieces c.args.regions.now c.loop-number.number c.index-regions-number.result c.loop-number.pieces.items c.push_region.new.pieces.items
    c.loop-number-test.true c.index-regions-number.is c.in_ok-push_region.ensures c.loop-number.invariant
