use Rattle.std.proofs.Common.{◌≢◌, ℕ, List, [], Option}
use Rattle.lf_units.specs.declared.geometry.Rect.{Rect}
use Rattle.lf_cells.specs.Cells.{cells_of}
use Rattle.lf_occupancy.specs.Views.{Bounds, KeepsCapacities}
use Rattle.lf_occupancy.specs.Strips.{with_boxes, capacities_in}
use Rattle.lf_placement.specs.Placements.{boxes_at, working_places_of}
use Rattle.lf_placement.specs.Steps.{KeepsMarks}
use Rattle.lf_placement.proofs.Tallying.{half_committed}
use Rattle.lf_placement.proofs.counted_capacity.fit_team.Given as goal

-- the cells visited are counted at their committed places
abbrev pub invariant-loop-id : goal.invariant-loop-id
invariant-loop-id l = record {
  own : Bounds (with_boxes l.fn.occupancy []) l.team (boxes_at l.sized.frame.now (cells_of l.sized.cells.now l.team) (working_places_of (cells_of l.sized.cells.now l.team))) l.fn.counts
      → Bounds (with_boxes l.occupancy []) l.team (boxes_at l.sized.frame.now (cells_of l.sized.cells.now l.team) (half_committed l.id-index (cells_of l.sized.cells.now l.team))) l.counts;
  others : (boxes : List (Option Rect)) (other : ℕ) → other ≢ l.team → Bounds (with_boxes l.fn.occupancy []) other boxes l.fn.counts
      → Bounds (with_boxes l.occupancy []) other boxes l.counts;
  gains : KeepsMarks l.fn.occupancy l.occupancy;
  room : KeepsCapacities l.counts (capacities_in l.occupancy.mark_lists);
}
