use Rattle.std.proofs.Common.{ℤ, map, sym, subst, FitsSigned, to_z, of_z, w64, rules}
use Rattle.std.proofs.lemmas.Int.{to_z-of_z}
use Rattle.std.proofs.lemmas.Result.{IfOk-weaker}
use Rattle.lf_units.specs.declared.grid.SiteGrid.{SiteGrid}
use Rattle.lf_units.specs.Grids.{FindsNearest, IsGrid}
use Rattle.lf_gaps.specs.Gaps.{FitsRows}
use Rattle.lf_legalize.proofs.RowChoice.{IsFit, fit_in_def, grid_is, level_bounded, level_of_list, nearest_to_target, width_is}
use Rattle.lf_legalize.proofs.on_row.nearest_x.Goals as goal

pub nearest_fit-requires-clause-rising : goal.nearest_fit-requires-clause-rising
nearest_fit-requires-clause-rising c k d within =
    (level_of_list c.args.search.now c.args.bottom.now.number c.args.bottom.now.row.now c.args.bottom.now.window.now.span c.args.lists.now k d c.requires.levels
    within).rising

pub nearest_fit-requires-clause-bounded : goal.nearest_fit-requires-clause-bounded
nearest_fit-requires-clause-bounded c k d within =
    level_bounded c.args.search.now c.args.bottom.now.number c.args.bottom.now.row.now c.args.bottom.now.window.now.span k _ c.search_is_occupied.ensures
    (level_of_list c.args.search.now c.args.bottom.now.number c.args.bottom.now.row.now c.args.bottom.now.window.now.span c.args.lists.now k d c.requires.levels
    within)

pub nearest_fit-requires-clause-grid : goal.nearest_fit-requires-clause-grid
nearest_fit-requires-clause-grid c =
    subst IsGrid (sym c.grid_on-grid.ensures) (grid_is c.args.search.now c.args.bottom.now.number c.args.bottom.now.row.now c.requires.is_in_place)

pub nearest_fit-requires-clause-width : goal.nearest_fit-requires-clause-width
nearest_fit-requires-clause-width c = width_is c.args.search.now

pub returns : goal.returns
returns c =
    let s = c.args.search.now in
    let rows = map (λ list. list.items) c.args.lists.now in
    let near : ℤ = c.equivalent_target-target.result in
    let fits : FitsSigned w64 near = search rules in
    let handed : ℤ = to_z w64 (of_z w64 near) in
    IfOk-weaker c.nearest_fit.result (λ found. FindsNearest (λ x. FitsRows rows c.grid_on-grid.result s.size.x x) handed found)
    (λ found. FindsNearest (IsFit s c.args.bottom.now.row.now rows) s.target.now.x found)
    (λ found nearest.
    nearest_to_target (IsFit s c.args.bottom.now.row.now rows) s.target.now.x near found c.equivalent_target-target.ensures
    (λ x fit. fit_in_def s c.args.bottom.now.number c.args.bottom.now.row.now c.args.bottom.now.window.now.span rows x c.requires.is_in_place c.search_is_occupied.ensures
    c.requires.levels fit)
    (subst (λ (t : ℤ). FindsNearest (IsFit s c.args.bottom.now.row.now rows) t found) (to_z-of_z w64 near fits)
    (subst (λ (g : SiteGrid). FindsNearest (λ x. FitsRows rows g s.size.x x) handed found) c.grid_on-grid.ensures nearest)))
    c.nearest_fit.ensures
