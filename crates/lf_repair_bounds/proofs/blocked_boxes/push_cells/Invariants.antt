use Rattle.lf_cells.specs.Cells.{cells_of}
use Rattle.lf_repair_bounds.specs.FreeRuns.{AreOffCells}
use Rattle.lf_repair_bounds.specs.Gaps.{placed_team}
use Rattle.lf_repair_bounds.proofs.blocked_boxes.push_cells.Given as goal

-- the boxes of the cells so far
abbrev pub invariant-loop-id : goal.invariant-loop-id
invariant-loop-id l = AreOffCells (placed_team l.frame l.team l.padding.sites (cells_of l.cells l.team)) l.id-index l.boxes.items
