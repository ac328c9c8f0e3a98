use Rattle.lf_segments.proofs.cut_row.push_land.Goals as goal

pub push_row-requires : goal.push_row-requires
push_row-requires c = record {
  core_ones = c.requires.core_ones;
  boxes = c.without_obstacles-fences.ensures.boxes c.args.row.now c.requires.boxes;
  sorted = c.without_obstacles-fences.ensures.sorted;
}
