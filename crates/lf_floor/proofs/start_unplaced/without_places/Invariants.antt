use Rattle.lf_floor.specs.StartUnplaced.{HaveSameCells}
use Rattle.lf_floor.proofs.start_unplaced.without_places.Given as goal

abbrev pub invariant-loop-team : goal.invariant-loop-team
invariant-loop-team l = HaveSameCells l.fn.cells l.bare
