use Rattle.std.proofs.Common.{[]}
use Rattle.lf_occupancy.specs.Views.{KeepsCapacities}
use Rattle.lf_occupancy.specs.Strips.{with_boxes, capacities_in}
use Rattle.lf_placement.specs.Steps.{KeepsMarks}
use Rattle.lf_placement.proofs.Tallying.{HalfCommitted}
use Rattle.lf_placement.proofs.counted_capacity.fit_all_committed.Given as goal

-- the teams visited are counted at their committed places
abbrev pub invariant-loop-team : goal.invariant-loop-team
invariant-loop-team l = record {
  half : HalfCommitted l.sized.frame.now l.sized.cells.now (with_boxes l.occupancy []) l.team l.counts;
  gains : KeepsMarks l.fn.occupancy l.occupancy;
  room : KeepsCapacities l.counts (capacities_in l.occupancy.mark_lists);
}
