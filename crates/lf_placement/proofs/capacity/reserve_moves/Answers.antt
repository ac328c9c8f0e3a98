use Rattle.std.proofs.Common.{◌≡◌, List, [], ◌∷◌, Option, length, get_or, map, subst, ap, ◌∙◌, arith}
use Rattle.std.specs.Prelude.{All, IfSome, OnOk}
use Rattle.lf_cells.specs.declared.cell.CellId.{CellId}
use Rattle.lf_cells.specs.Cells.{cells_of}
use Rattle.lf_units.specs.declared.geometry.Rect.{Rect}
use Rattle.lf_occupancy.specs.Floorplans.{working_box_of, boxes_in}
use Rattle.lf_occupancy.specs.Views.{FitIn, HasRoomFor}
use Rattle.lf_occupancy.specs.Strips.{with_boxes}
use Rattle.lf_occupancy.proofs.Building.{boxes_there}
use Rattle.lf_undo.specs.declared.moves.Move.{Move}
use Rattle.lf_placement.specs.Placements.{moves_applied}
use Rattle.lf_placement.proofs.Counts.{room_made}
use Rattle.lf_placement.proofs.capacity.reserve_moves.Goals as goal

one_move : (moves : List Move) (next : Move) → length moves ≡ 1 → next ≡ get_or moves 0 next → next ∷ [] ≡ moves
one_move [] next one is = absurd (omega (arith, one))
one_move (m ∷ []) next one is = ap (λ (x : Move). x ∷ []) is
one_move (m ∷ n ∷ ms) next one is = absurd (omega (arith, one))

pub returns-then-moves-eq1-clause-ok : goal.returns-then-moves-eq1-clause-ok
returns-then-moves-eq1-clause-ok c =
    let team = c.args.team in
    subst (λ (moves : List Move). OnOk c.reserve_cells.result
    (FitIn (with_boxes c.reserve_cells.new.occupancy (boxes_in c.args.sized.now.frame.now c.args.sized.now.cells.now)) team
    (map (working_box_of c.args.sized.now.frame.now) (moves_applied moves (cells_of c.args.sized.now.cells.now team)))))
    (one_move c.args.moves.now c.index-moves-0.result (omega arith) c.index-moves-0.is) c.reserve_cells.ensures.ok

pub returns-clause-ok : goal.returns-clause-ok
returns-clause-ok c =
    let team = c.args.team in
    let boxes = boxes_in c.args.sized.now.frame.now c.args.sized.now.cells.now in
    let o = with_boxes c.reserve_for.new.self boxes in
    room_made c.args.sized.now.frame.now team (cells_of c.args.sized.now.cells.now team) c.args.moves.now o
    (boxes_there c.args.sized.now.frame.now c.args.sized.now.cells.now team)
    (c.boxes_fit.ensures boxes (c.in_ok-reserve_for.ensures.holds boxes c.requires) team)
    (subst (λ (requested : List (CellId × Option Rect)). All (λ m. IfSome m.1 (λ r. HasRoomFor o m.0.team r (length requested))) requested)
    (c.as_slice.ensures.value ∙ c.in_ok-requested.ensures) (c.in_ok-reserve_for.ensures.ok boxes c.requires))

pub returns-in_err-reserve_for-clause-holds : goal.returns-in_err-reserve_for-clause-holds
returns-in_err-reserve_for-clause-holds c = c.in_err-reserve_for.ensures.holds (boxes_in c.args.sized.now.frame.now c.args.sized.now.cells.now) c.requires

pub returns-clause-holds : goal.returns-clause-holds
returns-clause-holds c = c.in_ok-reserve_for.ensures.holds (boxes_in c.args.sized.now.frame.now c.args.sized.now.cells.now) c.requires
