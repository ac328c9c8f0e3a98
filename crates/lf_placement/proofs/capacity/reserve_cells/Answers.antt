use Rattle.std.proofs.Common.{List, [], ◌∷◌, Option, length, subst, ap, ◌∙◌}
use Rattle.std.specs.Prelude.{All, IfSome}
use Rattle.lf_cells.specs.declared.cell.CellId.{CellId}
use Rattle.lf_cells.specs.Cells.{cells_of}
use Rattle.lf_units.specs.declared.geometry.Rect.{Rect}
use Rattle.lf_occupancy.specs.Floorplans.{boxes_in}
use Rattle.lf_occupancy.specs.Views.{HasRoomFor}
use Rattle.lf_occupancy.specs.Strips.{with_boxes}
use Rattle.lf_occupancy.proofs.Building.{boxes_there}
use Rattle.lf_placement.proofs.Counts.{room_made}
use Rattle.lf_placement.proofs.capacity.reserve_cells.Goals as goal

pub returns-clause-ok : goal.returns-clause-ok
returns-clause-ok c =
    let team = c.args.team in
    let boxes = boxes_in c.args.sized.now.frame.now c.args.sized.now.cells.now in
    let o = with_boxes c.reserve_for.new.self boxes in
    room_made c.args.sized.now.frame.now team (cells_of c.args.sized.now.cells.now team) (c.args.next.now ∷ []) o
    (boxes_there c.args.sized.now.frame.now c.args.sized.now.cells.now team)
    (c.boxes_fit.ensures boxes (c.in_ok-reserve_for.ensures.holds boxes c.requires) team)
    (subst (λ (requested : List (CellId × Option Rect)). All (λ m. IfSome m.1 (λ r. HasRoomFor o m.0.team r (length requested))) requested)
    (c.from_ref.ensures.value ∙ ap (λ (m : CellId × Option Rect). m ∷ []) c.requested_box-requested.ensures) (c.in_ok-reserve_for.ensures.ok boxes c.requires))

pub returns-in_err-reserve_for-clause-holds : goal.returns-in_err-reserve_for-clause-holds
returns-in_err-reserve_for-clause-holds c = c.in_err-reserve_for.ensures.holds (boxes_in c.args.sized.now.frame.now c.args.sized.now.cells.now) c.requires

pub returns-clause-holds : goal.returns-clause-holds
returns-clause-holds c = c.in_ok-reserve_for.ensures.holds (boxes_in c.args.sized.now.frame.now c.args.sized.now.cells.now) c.requires
