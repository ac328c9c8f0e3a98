use Rattle.std.proofs.Common.{◌≡◌, ◌∙◌, ◌<◌, ◌++◌, [], ◌∷◌, Some, ap, arith, get_or, length, map, sym, subst, take}
use Rattle.std.proofs.lemmas.List.{get_or_default, map_more, take_all}
use Rattle.std.proofs.lemmas.Option.{get_or_from_slice_get}
use Rattle.lf_cells.specs.declared.cell.Cell.{Cell}
use Rattle.lf_cells.specs.declared.cell.CellId.{CellId}
use Rattle.lf_cells.specs.Cells.{cell_at, cells_of, id_of, ids_of}
use Rattle.lf_cells.proofs.TeamIds.{ids_long, ids_read}
use Rattle.lf_reports.specs.Reports.{with_byte_name}
use Rattle.lf_floor_model.proofs.LegalPlaces.{there_within}
use Rattle.lf_task_files.specs.CommittedLegality.{committed_listed}
use Rattle.lf_task_files.proofs.committed_legality.listed_team.Goals as goal

abbrev no_id : CellId
no_id = record { team = 0; own = 0 }

pub loop-id-preserved : goal.loop-id-preserved
loop-id-preserved c =
    let team = c.args.team in
    let cells = cells_of c.args.cells.now team in
    let k = c.loop-id.id-index in
    let ids = c.cells_of-ids.result.now in
    let are : ids ≡ ids_of team cells = c.cells_of-ids.ensures in
    let long = ids_long team cells ids are in
    let within : k < length cells = omega (arith, c.loop-id-test.true, long) in
    let id : get_or ids k no_id ≡ id_of team k =
    ids_read team k cells ids (get_or ids k no_id) are c.loop-id-test.true (get_or_default ids k no_id (get_or ids k no_id) c.loop-id-test.true) in
    let there = there_within cells k within in
    let here : get_or cells k there.0 ≡ there.0 = get_or_from_slice_get cells k there.0 there.0 there.1 in
    let pushed = c.in_ok-push_cell.ensures {u = tt} there.0 (subst (λ (i : CellId). cell_at c.args.cells.now i ≡ Some there.0) (sym id) there.1) in
    pushed ∙ ap (λ (i : CellId). map with_byte_name c.loop-id.listed.items ++ committed_listed i.team there.0 ∷ []) id
    ∙ ap (λ xs. xs ++ committed_listed team there.0 ∷ []) c.loop-id.invariant
    ∙ ap (λ (x : Cell). map (committed_listed team) (take k cells) ++ committed_listed team x ∷ []) (sym here)
    ∙ sym (map_more (committed_listed team) cells k there.0 within)

pub returns : goal.returns
returns c =
    let team = c.args.team in
    let cells = cells_of c.args.cells.now team in
    let k = c.loop-id.id-index in
    let ids = c.cells_of-ids.result.now in
    let long = ids_long team cells ids c.cells_of-ids.ensures in
    c.loop-id.invariant
    ∙ ap (map (committed_listed team)) (take_all k cells (omega (arith, c.loop-id-test.false, c.loop-id.auto.id-index-end, long)))
