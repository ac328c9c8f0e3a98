use Rattle.lf_segments.proofs.GroupLemmas.{moved_boxes}
use Rattle.lf_segments.proofs.TreeLemmas.{boxes_near}
use Rattle.lf_segments.proofs.obstacle_boxes.boxes_near.Goals as goal

pub returns-clause-boxes : goal.returns-clause-boxes
returns-clause-boxes c =
    let f = c.args.frame.now in
    let r = c.args.row.now in
    moved_boxes f f.obstacles r c.find_overlapping.new.found.items c.sort_boxes.new.boxes.items c.sort_boxes.ensures.moved
    (boxes_near f r c.args.tree.now c.find_overlapping.new.found.items c.area.result c.requires.tree c.area.ensures c.in_ok-find_overlapping.ensures)
