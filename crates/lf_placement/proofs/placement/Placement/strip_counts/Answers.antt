use Rattle.std.proofs.Common.{[], get_or, subst}
use Rattle.std.specs.Prelude.{IfOk}
use Rattle.std.proofs.lemmas.Result.{IfOk-weaker}
use Rattle.lf_cells.specs.Cells.{cells_of}
use Rattle.lf_occupancy.specs.Floorplans.{boxes_in}
use Rattle.lf_occupancy.specs.Views.{Bounds, KeepsCapacities}
use Rattle.lf_occupancy.specs.Strips.{with_boxes}
use Rattle.lf_placement.specs.Placements.{BoundsAt, Placing, boxes_at, working_places_of}
use Rattle.lf_placement.proofs.Tallying.{bounds_at_work}
use Rattle.lf_placement.proofs.placement.Placement.strip_counts.Goals as goal

pub returns-clause-room : goal.returns-clause-room
returns-clause-room c = subst (λ (p : Placing). IfOk c.strip_counts.result (λ t. KeepsCapacities t p.held.rooms)) c.self.view_is c.strip_counts.ensures.room

pub returns-clause-bounds : goal.returns-clause-bounds
returns-clause-bounds c = λ team.
    let f = c.self.inside.frame in
    let cells = c.self.inside.cells in
    let boxes = boxes_in f cells in
    let held = with_boxes c.self.inside.occupancy boxes in
    let own = cells_of cells team in
    subst (λ (p : Placing). IfOk c.strip_counts.result (λ t. BoundsAt p team (working_places_of (cells_of p.cells team)) t)) c.self.view_is
    (IfOk-weaker c.strip_counts.result (λ t. Bounds held team (get_or boxes team []) t) (λ t. Bounds held team (boxes_at f own (working_places_of own)) t)
    (λ t bounds. bounds_at_work f cells team held t bounds) (c.strip_counts.ensures.bounds boxes team c.self.invariant.holds))
