use Rattle.lf_occupancy.specs.Floorplans.{boxes_in}
use Rattle.lf_occupancy.specs.Strips.{with_boxes}
use Rattle.lf_placement.specs.Steps.{MarksSome, KeepsStripRooms, RemovesFirst, moved_positions}
use Rattle.lf_placement.proofs.occupancy_sync.remove_moved.Given as goal

abbrev pub invariant-loop-next : goal.invariant-loop-next
invariant-loop-next l = record {
  out : MarksSome (RemovesFirst l.team (moved_positions l.moves) l.next-index (with_boxes l.fn.occupancy (boxes_in l.sized.frame.now l.sized.cells.now))) l.occupancy;
  rooms : KeepsStripRooms l.fn.occupancy l.occupancy;
}
