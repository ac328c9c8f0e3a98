use Rattle.std.proofs.Common.{sym, subst}
use Rattle.lf_floorplan.specs.declared.frame.Frame.{Frame}
use Rattle.lf_occupancy.specs.Floorplans.{IsMarkedBy, boxes_in}
use Rattle.lf_occupancy.specs.Strips.{with_boxes}
use Rattle.lf_placement.specs.Placements.{IsPlacing, placing_of}
use Rattle.lf_placement.proofs.Keeping.{placing_opening}
use Rattle.lf_placement.proofs.Marks.{of_marked}
use Rattle.lf_placement.proofs.build.tables_of.Goals as goal

pub returns-clause-holds : goal.returns-clause-holds
returns-clause-holds c = (c.in_ok-occupancy.ensures {u = tt}).held.holds

pub returns-clause-placing : goal.returns-clause-placing
returns-clause-placing c =
    let f = c.args.loaded.frame in
    let cells = c.in_ok-built.built.1 in
    let m = c.in_ok-occupancy.occupancy in
    let are = c.in_ok-built.ensures {u = tt} in
    let held = subst (λ (f : Frame). IsMarkedBy f cells m) are.frame (c.in_ok-occupancy.ensures {u = tt}).held in
    subst (λ (f : Frame). IsPlacing (placing_of f cells m)) (sym are.frame)
    (placing_opening c.args.loaded cells (with_boxes m (boxes_in f cells)) are.cells (of_marked f cells m held)
    (c.boxes_fit.ensures (boxes_in f cells) held.holds))
