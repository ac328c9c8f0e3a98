use Rattle.std.proofs.Common.{◌≡◌, take}
use Rattle.lf_repair_planner.specs.Packing.{total_width}
use Rattle.lf_repair_planner.proofs.packed_cell.width_of.Given as goal

abbrev pub invariant-loop-cell : goal.invariant-loop-cell
invariant-loop-cell l = l.width ≡ total_width (take l.cell-index l.cells)
