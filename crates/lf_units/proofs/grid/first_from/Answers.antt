use Rattle.std.proofs.Common.{arith}
use Rattle.std.proofs.lemmas.Int.{ints}
use Rattle.lf_units.proofs.Grids.{step_right}
use Rattle.lf_units.proofs.grid.first_from.Goals as goal

pub returns-then-below-at-clause-on_grid : goal.returns-then-below-at-clause-on_grid
returns-then-below-at-clause-on_grid c = step_right c.args.grid.now _ _ c.requires.grid.rising c.last_to-below.ensures.on_grid (omega (arith, ints))
