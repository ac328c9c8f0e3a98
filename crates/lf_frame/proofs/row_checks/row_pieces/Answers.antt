use Rattle.lf_frame.specs.Sweep.{row_pieces}
use Rattle.lf_frame.proofs.Pieces.{hold_more}
use Rattle.lf_frame.proofs.row_checks.row_pieces.Goals as goal

pub loop-number-preserved : goal.loop-number-preserved
loop-number-preserved c =
    hold_more (row_pieces c.args.core.now c.args.pitch.now.size) c.args.rows.now c.loop-number.number c.index-rows-number.result c.loop-number.pieces.items
    c.push_row.new.pieces.items
    c.loop-number-test.true c.index-rows-number.is c.in_ok-push_row.ensures c.loop-number.invariant
