use Rattle.std.proofs.Common.{◌≡◌, ◌+◌, take}
use Rattle.lf_repair_planner.specs.Packing.{total_width}
use Rattle.lf_repair_planner.proofs.packed_cell.have_room.Given as goal

abbrev pub invariant-loop-cell : goal.invariant-loop-cell
invariant-loop-cell l = l.free ≡ l.start + total_width (take l.cell-index l.cells)
