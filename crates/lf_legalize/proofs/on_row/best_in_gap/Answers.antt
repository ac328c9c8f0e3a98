use Rattle.std.proofs.Common.{ℤ, [], ◌∷◌, Option, sym, subst, FitsSigned, w64, rules}
use Rattle.std.proofs.lemmas.Int.{to_z-of_z}
use Rattle.lf_floorplan.specs.Bounds.{IsDefNumber}
use Rattle.lf_units.specs.Grids.{FindsNearest, IsNearest}
use Rattle.lf_legalize.specs.RowSearches.{IsBestAmong, IsOnRowIn, query_of_search}
use Rattle.lf_legalize.proofs.RowFree.{spot_on}
use Rattle.lf_legalize.proofs.RunLemmas.{core_at}
use Rattle.lf_legalize.proofs.RowChoice.{IsFit, best_there, fit_in_def, may_go_fits}
use Rattle.lf_legalize.proofs.on_row.best_in_gap.Goals as goal

pub returns-in_default : goal.returns-in_default
returns-in_default c p on may =
    let s = c.args.search.now in
    let row = c.args.bottom.now.row.now in
    let gap = c.nearest_free_x.ensures in
    let none = subst (λ (found : Option ℤ). FindsNearest (IsFit s row (gap.free ∷ [])) s.target.now.x found) c.in_default.is gap.nearest in
    none p.x (may_go_fits s c.args.bottom.now.number row c.args.bottom.now.window.now.span (gap.free ∷ []) p c.requires.is_in_place
    c.search_is_occupied.ensures gap.levels on may)

pub place_on-requires-clause-x_in_def : goal.place_on-requires-clause-x_in_def
place_on-requires-clause-x_in_def c =
    let s = c.args.search.now in
    let row = c.args.bottom.now.row.now in
    let gap = c.nearest_free_x.ensures in
    let nearest : IsNearest (IsFit s row (gap.free ∷ [])) s.target.now.x c.in-Some.x =
    subst (λ (found : Option ℤ). FindsNearest (IsFit s row (gap.free ∷ [])) s.target.now.x found) c.in-Some.is gap.nearest in
    let def : IsDefNumber c.in-Some.x =
    fit_in_def s c.args.bottom.now.number row c.args.bottom.now.window.now.span (gap.free ∷ []) c.in-Some.x c.requires.is_in_place
    c.search_is_occupied.ensures gap.levels nearest.fit in
    subst IsDefNumber (sym (to_z-of_z w64 c.in-Some.x (search rules))) def

pub place_on-requires-clause-y_in_def : goal.place_on-requires-clause-y_in_def
place_on-requires-clause-y_in_def c = (core_at c.args.search.now.frame.now c.args.bottom.now.number c.args.bottom.now.row.now c.requires.is_in_place).y_in_def

pub returns : goal.returns
returns c =
    let s = c.args.search.now in
    let row = c.args.bottom.now.row.now in
    let window = c.args.bottom.now.window.now.span in
    let gap = c.nearest_free_x.ensures in
    let x : ℤ = c.in-Some.x in
    let fits : FitsSigned w64 x = search rules in
    let nearest : IsNearest (IsFit s row (gap.free ∷ [])) s.target.now.x x =
    subst (λ (found : Option ℤ). FindsNearest (IsFit s row (gap.free ∷ [])) s.target.now.x found) c.in-Some.is gap.nearest in
    let best : ℤ → Type 0 = λ v. IsBestAmong (IsOnRowIn s.frame.now s.size row window) (query_of_search s) s.target.now (spot_on row v c.args.orient) in
    subst (IsBestAmong (IsOnRowIn s.frame.now s.size row window) (query_of_search s) s.target.now) (sym c.place_on.ensures)
    (subst best (sym (to_z-of_z w64 x fits))
    (best_there s c.args.bottom.now.number row window (gap.free ∷ []) c.args.orient x c.requires.is_in_place c.search_is_occupied.ensures gap.levels
    c.requires.first nearest))
