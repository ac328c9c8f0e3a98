use Rattle.lf_cells.specs.Cells.{cells_of}
use Rattle.lf_repair_strategy.proofs.Targets.{AreTargetsTo}
use Rattle.lf_repair_strategy.proofs.pass.working_places.Given as goal

abbrev pub invariant-loop-id : goal.invariant-loop-id
invariant-loop-id l = AreTargetsTo (cells_of l.placement.cells l.number) l.id-index l.targets.items
