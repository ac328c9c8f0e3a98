use Rattle.std.proofs.Common.{◌≡◌}
use Rattle.lf_repair_planner.proofs.packed_insertion.right_side.Given as goal

abbrev pub invariant-loop-cell : goal.invariant-loop-cell
invariant-loop-cell l = l.count ≡ l.cell-index
