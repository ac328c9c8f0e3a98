use Rattle.std.proofs.Common.{ℤ, map, FitsSigned, to_z, of_z, w64, subst, rules}
use Rattle.std.specs.Prelude.{IfOk}
use Rattle.std.proofs.lemmas.Int.{to_z-of_z}
use Rattle.lf_units.specs.Grids.{FindsNearest}
use Rattle.lf_gaps.specs.Gaps.{FitsRows}
use Rattle.lf_legalize.proofs.on_row.nearest_fit.Goals as goal

pub returns : goal.returns
returns c =
    let width : ℤ = c.args.width.now in
    let target : ℤ = c.args.target.now in
    let rows = map (λ list. list.items) c.args.lists.now in
    let wide : FitsSigned w64 width = search rules in
    let far : FitsSigned w64 target = search rules in
    let At : ℤ → ℤ → Type 0 = λ w t. IfOk c.best_in_row.result (λ found. FindsNearest (λ x. FitsRows rows c.args.grid.now w x) t found) in
    subst (λ (t : ℤ). At width t) (to_z-of_z w64 target far)
    (subst (λ (w : ℤ). At w (to_z w64 (of_z w64 target))) (to_z-of_z w64 width wide) c.best_in_row.ensures)
