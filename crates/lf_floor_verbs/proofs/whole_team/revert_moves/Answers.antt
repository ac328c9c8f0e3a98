use Rattle.std.proofs.Common.{◌≡◌, List, ap, subst, ◌∙◌, arith, get_or}
use Rattle.std.proofs.lemmas.List.{get_or_default}
use Rattle.lf_cells.specs.declared.cell.CellId.{CellId}
use Rattle.lf_cells.specs.Cells.{cells_of, id_of}
use Rattle.lf_cells.proofs.TeamIds.{ids_long, ids_read}
use Rattle.lf_undo.specs.declared.moves.Move.{Move}
use Rattle.lf_placement.specs.Placements.{moves_applied}
use Rattle.lf_floor_verbs.specs.Reverting.{IsRevertMove}
use Rattle.lf_floor_verbs.proofs.Reverting.{all_are_back, one_more_noted}
use Rattle.lf_floor_verbs.proofs.whole_team.revert_moves.Goals as goal

abbrev no_id : CellId
no_id = record { team = 0; own = 0 }

pub loop-id-init : goal.loop-id-init
loop-id-init c = ap (λ (ms : List Move). moves_applied ms (cells_of c.args.cells.now c.args.number)) c.new-moves.ensures

pub loop-id-preserved : goal.loop-id-preserved
loop-id-preserved c =
    let table = c.args.cells.now in
    let k = c.loop-id.id-index in
    let cells = cells_of table c.args.number in
    let ids = c.cells_of-id-items.result.now in
    let id : get_or ids k no_id ≡ id_of c.args.number k =
    ids_read c.args.number k cells ids (get_or ids k no_id) c.cells_of-id-items.ensures c.loop-id-test.true
    (get_or_default ids k no_id (get_or ids k no_id) c.loop-id-test.true) in
    one_more_noted k cells c.loop-id.moves c.note_revert.new.moves c.loop-id.invariant
    (subst (λ (i : CellId). IsRevertMove (cells_of table i.team) i.own c.loop-id.moves c.note_revert.new.moves) id (c.in_ok-note_revert.ensures {u = tt}))

pub returns : goal.returns
returns c =
    let cells = cells_of c.args.cells.now c.args.number in
    let many = ids_long c.args.number cells c.cells_of-id-items.result.now c.cells_of-id-items.ensures in
    c.loop-id.invariant ∙ all_are_back c.loop-id.id-index cells (omega (arith, many, c.loop-id-test.false))
