use Rattle.std.proofs.Common.{[], List, Option, ap, set, subst, sym, ◌∙◌}
use Rattle.std.specs.Prelude.{OnOk}
use Rattle.lf_units.specs.declared.geometry.Rect.{Rect}
use Rattle.lf_cells.specs.Cells.{cells_of}
use Rattle.lf_occupancy.specs.Views.{Bounds}
use Rattle.lf_occupancy.specs.Strips.{with_boxes}
use Rattle.lf_placement.specs.Placements.{boxes_at}
use Rattle.lf_placement.proofs.Tallying.{box_put_at, place_box, within_places}
use Rattle.lf_placement.proofs.counted_capacity.reserve_change.Goals as goal

pub returns-clause-own : goal.returns-clause-own
returns-clause-own c = λ places is bounds.
    let f = c.args.sized.now.frame.now in
    let cells = cells_of c.args.sized.now.cells.now c.args.team in
    let change = c.args.change.now in
    let boxes = boxes_at f cells places in
    let from = c.boxes_of_change-from.ensures.from in
    let to = c.boxes_of_change-from.ensures.to in
    subst (λ (bs : List (Option Rect)). OnOk c.reserve_counted.result (Bounds (with_boxes c.reserve_counted.new.self []) c.args.team bs c.reserve_counted.new.counts))
    (ap (set boxes change.own) to ∙ box_put_at f cells places change.own change.to (within_places places change.own change.from is))
    (c.reserve_counted.ensures.own boxes change.own (place_box f cells places change.own change.from is ∙ sym from) bounds)

pub returns-clause-gains : goal.returns-clause-gains
returns-clause-gains c = record { holds = c.reserve_counted.ensures.holds; index = c.reserve_counted.ensures.index; site = c.reserve_counted.ensures.site; rooms = c.reserve_counted.ensures.rooms }
