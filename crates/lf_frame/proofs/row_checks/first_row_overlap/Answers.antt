use Rattle.lf_frame.proofs.Pieces.{rows_apart}
use Rattle.lf_frame.proofs.row_checks.first_row_overlap.Goals as goal

pub returns-then-none_clash : goal.returns-then-none_clash
returns-then-none_clash c =
    rows_apart c.args.core.now c.args.pitch.now.size c.args.rows.now c.in_ok-pieces.pieces.items c.in_ok-pieces.ensures
    (rw c.deref_mut.ensures.value at (c.none_clash.ensures.0 c.if-none_clash.true))
