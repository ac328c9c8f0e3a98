use Rattle.lf_occupancy.specs.Floorplans.{boxes_in}
use Rattle.lf_placement.specs.Steps.{moved_positions}
use Rattle.lf_placement.proofs.Boxes.{own_there}
use Rattle.lf_placement.proofs.Marks.{none_out, one_out, partly_out, rooms_same, rooms_through}
use Rattle.lf_occupancy.specs.Strips.{with_boxes}
use Rattle.lf_placement.proofs.occupancy_sync.remove_moved.Goals as goal

pub loop-next-init : goal.loop-next-init
loop-next-init c = record {
  out = none_out c.args.team (moved_positions c.args.moves.now) c.args.occupancy.now (boxes_in c.args.sized.now.frame.now c.args.sized.now.cells.now) c.requires;
  rooms = rooms_same c.args.occupancy.now;
}

pub remove_cell-requires : goal.remove_cell-requires
remove_cell-requires c =
    let was = c.loop-next.invariant.out in
    record {
      boxes = was.boxes;
      holds = was.holds;
      is = partly_out c.args.sized.now.frame.now c.args.sized.now.cells.now c.args.team (moved_positions c.args.moves.now) c.loop-next.next-index c.args.occupancy.now
          (with_boxes c.loop-next.occupancy was.boxes) was.is;
    }

pub loop-next-preserved : goal.loop-next-preserved
loop-next-preserved c =
    let next = c.next-item.result in
    let was = c.loop-next.invariant.out in
    let part = partly_out c.args.sized.now.frame.now c.args.sized.now.cells.now c.args.team (moved_positions c.args.moves.now) c.loop-next.next-index c.args.occupancy.now
    (with_boxes c.loop-next.occupancy was.boxes) was.is in
    record {
      out = one_out c.args.team (moved_positions c.args.moves.now) c.loop-next.next-index next.own
          (with_boxes c.args.occupancy.now (boxes_in c.args.sized.now.frame.now c.args.sized.now.cells.now)) c.loop-next.occupancy c.remove_cell.new.occupancy
          (own_there c.args.moves.now c.loop-next.next-index next c.loop-next-test.true c.next-item.is) c.remove_cell.ensures.rooms was
          (c.remove_cell.ensures.holds was.boxes part was.holds);
      rooms = rooms_through c.args.occupancy.now c.loop-next.occupancy c.remove_cell.new.occupancy c.loop-next.invariant.rooms c.remove_cell.ensures.rooms;
    }
