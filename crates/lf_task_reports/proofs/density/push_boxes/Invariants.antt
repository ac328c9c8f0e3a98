use Rattle.std.proofs.Common.{◌≡◌, ◌++◌, take}
use Rattle.lf_cells.specs.Cells.{cells_of}
use Rattle.lf_task_reports.specs.Densities.{cell_boxes}
use Rattle.lf_task_reports.proofs.density.push_boxes.Given as goal

abbrev pub invariant-loop-own : goal.invariant-loop-own
invariant-loop-own l = l.boxes.items ≡ l.fn.boxes.items ++ cell_boxes l.placement.frame (take l.own (cells_of l.placement.cells l.number))
