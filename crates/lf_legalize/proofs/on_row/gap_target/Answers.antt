use Rattle.std.proofs.Common.{ℤ, pos, ◌<ℤ◌, FitsSigned, w64, sym, subst, rules}
use Rattle.std.proofs.lemmas.Int.{to_z-of_z}
use Rattle.lf_units.specs.Grids.{IsBounded, IsGrid}
use Rattle.lf_legalize.proofs.RowChoice.{grid_is, width_is}
use Rattle.lf_legalize.proofs.RowLegal.{wide}
use Rattle.lf_legalize.proofs.on_row.gap_target.Goals as goal

pub invariant_of-result-clause-on_grid : goal.invariant_of-result-clause-on_grid
invariant_of-result-clause-on_grid c =
    subst IsGrid (sym c.grid_on.ensures) (grid_is c.args.search.now c.args.bottom.now.number c.args.bottom.now.row.now c.requires)

pub invariant_of-result-clause-some : goal.invariant_of-result-clause-some
invariant_of-result-clause-some c =
    let width : ℤ = c.args.search.now.size.x in
    let fits : FitsSigned w64 width = search rules in
    subst (λ (w : ℤ). pos 0 <ℤ w) (sym (to_z-of_z w64 width fits)) (wide c.args.search.now)

pub invariant_of-result-clause-width_bounded : goal.invariant_of-result-clause-width_bounded
invariant_of-result-clause-width_bounded c =
    let width : ℤ = c.args.search.now.size.x in
    let fits : FitsSigned w64 width = search rules in
    subst IsBounded (sym (to_z-of_z w64 width fits)) (width_is c.args.search.now)

pub invariant_of-result-clause-target_bounded : goal.invariant_of-result-clause-target_bounded
invariant_of-result-clause-target_bounded c =
    let near : ℤ = c.equivalent_target.result in
    let fits : FitsSigned w64 near = search rules in
    subst IsBounded (sym (to_z-of_z w64 near fits)) c.equivalent_target.ensures.bounded
