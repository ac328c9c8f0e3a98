use Rattle.std.proofs.Common.{◌≡◌, Some, slice_get, refl, rules}
use Rattle.std.proofs.lemmas.Option.{slice_get_read}
use Rattle.lf_rules.proofs.frame_scan.row_at.Goals as goal

pub returns-then-extends_over : goal.returns-then-extends_over
returns-then-extends_over c =
    let at : slice_get c.args.frame.now.rows c.loop-number.number ≡ Some c.row-item.result =
    slice_get_read c.args.frame.now.rows _ c.loop-number.number c.row-item.result refl (search rules) (search rules) in
    rw at (c.if-extends_over.ensures.0 refl)
