use Rattle.std.proofs.Common.{◌≡◌, ℤ, ◌-ℤ◌, FitsSigned, w64, to_z, of_z, arith, rules, ap, sym, ◌∙◌}
use Rattle.std.specs.Int.RustNames.{int_rem}
use Rattle.std.proofs.lemmas.Int.{ints, rem_is}
use Rattle.lf_units.proofs.Grids.{rem_on_grid, moved}
use Rattle.lf_units.proofs.grid.beyond.Goals as goal

pub returns-clause-on_grid : goal.returns-clause-on_grid
returns-clause-on_grid c =
    let at = c.args.at in
    let origin = c.args.grid.now.origin in
    let step = c.args.grid.now.step in
    let along : ℤ = to_z w64 (of_z w64 at) -ℤ to_z w64 (of_z w64 origin) in
    let same : along ≡ (at -ℤ origin) = omega (arith, ints) in
    let step_fits : FitsSigned w64 step = search rules in
    let along_fits : FitsSigned w64 along = search rules in
    let r = rem_is w64 along step along_fits step_fits in
    moved c.args.grid.now _ _ (ap (λ (v : ℤ). at -ℤ v) (ap (λ (a : ℤ). int_rem a step) (sym same) ∙ sym r))
    (rem_on_grid c.args.grid.now at c.requires.grid.rising)
