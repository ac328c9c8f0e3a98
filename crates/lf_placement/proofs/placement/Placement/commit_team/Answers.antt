use Rattle.std.proofs.Common.{refl}
use Rattle.lf_occupancy.specs.Floorplans.{boxes_in}
use Rattle.lf_occupancy.specs.Strips.{widened_strips, with_boxes}
use Rattle.lf_occupancy.proofs.Building.{mark_lists_of_same}
use Rattle.lf_placement.specs.Placements.{placing_of}
use Rattle.lf_placement.proofs.Keeping.{boxes_still_committed, placing_committed}
use Rattle.lf_placement.proofs.Marks.{follows_still, rooms_same}
use Rattle.lf_placement.proofs.placement.Placement.commit_team.Goals as goal

pub invariant_of-self : goal.invariant_of-self
invariant_of-self c =
    let f = c.self.inside.frame in
    let old = c.self.inside.cells in
    let cells = c.commit_places.new.cells in
    let m = c.self.inside.occupancy in
    let boxes = boxes_in f old in
    record {
      holds = mark_lists_of_same (widened_strips m.site m.index.strips) boxes (boxes_in f cells) m.mark_lists
          (boxes_still_committed f c.args.team old cells c.commit_places.ensures.others c.commit_places.ensures.own) c.self.invariant.holds;
      placing = placing_committed (placing_of f old m) c.args.team cells (with_boxes m (boxes_in f cells)) c.self.invariant.placing
          c.commit_places.ensures.others c.commit_places.ensures.own (c.boxes_fit.ensures boxes c.self.invariant.holds)
          (follows_still f old cells m m c.self.invariant.placing.follows (rooms_same m)) refl refl refl;
    }
