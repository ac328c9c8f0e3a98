use Rattle.std.proofs.Common.{arith, to_z, of_z, w64, pos}
use Rattle.std.proofs.lemmas.Int.{ints}
use Rattle.lf_units.proofs.Grids.{step_left, less_from}
use Rattle.lf_units.proofs.grid.last_to.Goals as goal

pub returns-then-over-lt0-clause-on_grid : goal.returns-then-over-lt0-clause-on_grid
returns-then-over-lt0-clause-on_grid c = step_left c.args.grid.now _ _ c.requires.grid.rising c.beyond-over.ensures.on_grid (omega (arith, ints))

pub returns-then-over-lt0-clause-near : goal.returns-then-over-lt0-clause-near
returns-then-over-lt0-clause-near c = let less = less_from (to_z w64 (of_z w64 c.beyond-over.result)) (pos 0) c.if-over-lt0.true in omega
    (arith, ints, less, c.beyond-over.ensures.low)
