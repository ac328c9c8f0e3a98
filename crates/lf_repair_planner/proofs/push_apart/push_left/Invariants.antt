use Rattle.std.proofs.Common.{◌≡◌, ℕ, ◌<◌, get_or, length, map}
use Rattle.lf_repair_planner.specs.declared.packed_cell.PackedCell.{PackedCell}
use Rattle.lf_repair_planner.specs.Packing.{IsPackedWithin, shape}
use Rattle.lf_repair_planner.proofs.push_apart.push_left.Given as goal

abbrev pub invariant-loop-own : goal.invariant-loop-own
invariant-loop-own l = record {
  within : l.own < length l.cells;
  same : map shape l.initial.cells ≡ map shape l.cells;
  at : (d : PackedCell) → l.end ≡ (get_or l.cells l.own d).at;
  kept : (start end : ℕ) → IsPackedWithin start end l.initial.cells → l.cells ≡ l.initial.cells;
}

abbrev pub decreases-loop-own : goal.decreases-loop-own
decreases-loop-own l = l.own
