use Rattle.lf_cells.specs.Cells.{cells_of}
use Rattle.lf_repair_team.specs.CellEdits.{HaveLeftTargets}
use Rattle.lf_repair_team.proofs.Finding.{IsAtTarget}
use Rattle.lf_repair_team.proofs.Lists.{AreNamedTo}
use Rattle.lf_repair_team.proofs.outcome.changed_cells.Given as goal

abbrev pub invariant-loop-id : goal.invariant-loop-id
invariant-loop-id l = record {
  changed : AreNamedTo (IsAtTarget (cells_of l.placement.cells l.number) l.targets) l.id-index l.changed.items;
  moved : HaveLeftTargets (cells_of l.placement.cells l.number) l.targets l.changed.items;
}
