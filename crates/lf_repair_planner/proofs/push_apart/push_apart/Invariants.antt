use Rattle.lf_repair_planner.proofs.Looking.{Settles}
use Rattle.lf_repair_planner.proofs.push_apart.push_apart.Given as goal

abbrev pub invariant-loop-cell : goal.invariant-loop-cell
invariant-loop-cell l = Settles l.start l.end l.initial.cells l.cells l.free l.rest l.cell-index
