use Rattle.std.proofs.Common.{◌≡◌, ◌≤◌, ◌*◌, take}
use Rattle.lf_repair_planner.specs.Packing.{total_site_displacement}
use Rattle.lf_repair_planner.proofs.packed_cell.total_displacement.Given as goal

abbrev pub invariant-loop-cell : goal.invariant-loop-cell
invariant-loop-cell l = record {
  sum : l.way ≡ total_site_displacement (take l.cell-index l.cells);
  far : l.way ≤ l.cell-index * 4294967296;
}
