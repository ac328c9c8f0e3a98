use Rattle.lf_floor.specs.StartUnplaced.{HaveSameCells}
use Rattle.lf_floor.proofs.start_unplaced.unplace_up_to.Given as goal

abbrev pub invariant-loop-own : goal.invariant-loop-own
invariant-loop-own l = HaveSameCells l.fn.cells l.cells
