use Rattle.std.proofs.Common.{◌≡◌, ◌∙◌, ◌++◌, ◌<◌, length, get_or, sym, ap, subst, arith}
use Rattle.std.specs.Prelude.{All, slice_get}
use Rattle.std.proofs.lemmas.List.{get_or_default}
use Rattle.lf_cells.specs.declared.cell.CellId.{CellId}
use Rattle.lf_cells.specs.Cells.{cells_of, id_of}
use Rattle.lf_cells.proofs.TeamIds.{ids_long, ids_read}
use Rattle.lf_legalize.specs.Members.{IsSizedCell}
use Rattle.lf_repair_bounds.specs.FreeRuns.{cell_boxes}
use Rattle.lf_repair_bounds.specs.Gaps.{placed_team}
use Rattle.lf_repair_bounds.proofs.BlockedLemmas.{off_all_cells, off_more_cells}
use Rattle.lf_repair_bounds.proofs.blocked_boxes.push_cells.Goals as goal

abbrev no_id : CellId
no_id = record { team = 0; own = 0 }

pub push_cell-requires : goal.push_cell-requires
push_cell-requires c =
    let team = c.args.team in
    let k = c.loop-id.id-index in
    let ids = c.cells_of-id-items.result.now in
    let id : get_or ids k no_id ≡ id_of team k =
    ids_read team k (cells_of c.args.cells.now team) ids (get_or ids k no_id) c.cells_of-id-items.ensures c.loop-id-test.true
    (get_or_default ids k no_id (get_or ids k no_id) c.loop-id-test.true) in
    subst (λ (i : CellId). All (IsSizedCell c.args.frame.now) (cells_of c.args.cells.now i.team)) (sym id) c.requires.sized

pub loop-id-preserved : goal.loop-id-preserved
loop-id-preserved c =
    let f = c.args.frame.now in
    let table = c.args.cells.now in
    let team = c.args.team in
    let cells = cells_of table team in
    let k = c.loop-id.id-index in
    let ids = c.cells_of-id-items.result.now in
    let id : get_or ids k no_id ≡ id_of team k =
    ids_read team k cells ids (get_or ids k no_id) c.cells_of-id-items.ensures c.loop-id-test.true
    (get_or_default ids k no_id (get_or ids k no_id) c.loop-id-test.true) in
    let within : k < length cells = omega (arith, c.loop-id-test.true, ids_long team cells ids c.cells_of-id-items.ensures) in
    off_more_cells (placed_team f team c.args.padding.sites cells) k c.loop-id.boxes.items _ within
    (c.in_ok-push_cell.ensures
    ∙ ap (λ (i : CellId). c.loop-id.boxes.items ++ cell_boxes f c.args.padding.sites (slice_get (cells_of table i.team) i.own)) id)
    c.loop-id.invariant

pub returns : goal.returns
returns c =
    let team = c.args.team in
    let cells = cells_of c.args.cells.now team in
    off_all_cells (placed_team c.args.frame.now team c.args.padding.sites cells) c.loop-id.id-index c.loop-id.boxes.items
    (omega (arith, c.loop-id-test.false, ids_long team cells c.cells_of-id-items.result.now c.cells_of-id-items.ensures)) c.loop-id.invariant
