use Rattle.std.proofs.Common.{FitsSigned, w64, arith, rules}
use Rattle.std.proofs.lemmas.Int.{ints, to_z-of_z}
use Rattle.lf_units.specs.GridSteps.{AreEnds}
use Rattle.lf_units.proofs.grid.ends_of.Goals as goal

pub returns : goal.returns
returns c =
    let first_fits : FitsSigned w64 c.first_from-first.result = search rules in
    let last_fits : FitsSigned w64 c.last_to-last.result = search rules in
    let near = c.first_from-first.ensures.near in
    let above = c.first_from-first.ensures.above in
    let below = c.last_to-last.ensures.below in
    let far = c.last_to-last.ensures.near in
    let ends : AreEnds c.args.span.now c.args.grid.now c.args.width c.first_from-first.result c.last_to-last.result = record {
      rising = c.requires.grid.rising;
      first_on = c.first_from-first.ensures.on_grid;
      first_in = omega (arith, ints, above);
      first_near = omega (arith, ints, near);
      last_on = c.last_to-last.ensures.on_grid;
      last_in = omega (arith, ints, below);
      last_near = omega (arith, ints, far);
    } in
    rw (to_z-of_z w64 c.first_from-first.result first_fits, to_z-of_z w64 c.last_to-last.result last_fits) ends
