use Rattle.std.proofs.Common.{◌≡◌, refl, rules, slice_get, Some}
use Rattle.std.proofs.lemmas.Option.{slice_get_read}
use Rattle.lf_legalize.proofs.Reaches.{none_beside, same_row, small_search}
use Rattle.lf_legalize.proofs.nearest.best_in_window.Goals as goal

pub returns-then-is_beside : goal.returns-then-is_beside
returns-then-is_beside c = λ r there p on legal.
    let f = c.args.search.now.frame.now in
    let own : slice_get f.rows c.args.number ≡ Some c.index-as_slice-number.result =
    slice_get_read _ _ c.args.number c.index-as_slice-number.result refl (search rules) (search rules) in
    none_beside f c.args.search.now.size r c.index-as_slice-number.result c.args.window.now.span p (small_search c.args.search.now)
    (same_row f.rows c.args.number r c.index-as_slice-number.result there own) (c.is_beside.ensures.0 c.if-is_beside.true) on
