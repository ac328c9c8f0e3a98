use Rattle.std.proofs.Common.{◌≡◌, ◌∙◌, ap, arith, get_or, map, refl, sym, true}
use Rattle.std.proofs.Math.ListN.{length-map}
use Rattle.std.proofs.lemmas.Bool.{false≢true}
use Rattle.std.proofs.lemmas.List.{get_or_default}
use Rattle.lf_cells.specs.declared.cell.CellId.{CellId}
use Rattle.lf_cells.specs.Cells.{Cells, cells_of, id_of, ids_of}
use Rattle.lf_cells.proofs.TeamIds.{ids_long, ids_read}
use Rattle.lf_legalize.specs.Members.{member_of}
use Rattle.lf_task_files.proofs.CommittedVerdicts.{follows_at, legal_at, legal_so_far, legal_within}
use Rattle.lf_task_files.proofs.committed_legality.are_working_legal.Goals as goal

abbrev no_id : CellId
no_id = record { team = 0; own = 0 }

pub returns-then-not-is_cell_legal : goal.returns-then-not-is_cell_legal
returns-then-not-is_cell_legal c =
    let team = c.args.team in
    let p = c.args.placement.now in
    let cells = cells_of p.cells team in
    let k = c.loop-id.id-index in
    let ids = c.cells_of-id-items.result.now in
    let are : ids ≡ ids_of team cells = c.cells_of-id-items.ensures ∙ ap (λ (t : Cells). ids_of team (cells_of t team)) c.cells.ensures in
    let long = ids_long team cells ids are in
    let id : get_or ids k no_id ≡ id_of team k =
    ids_read team k cells ids (get_or ids k no_id) are c.loop-id-test.true (get_or_default ids k no_id (get_or ids k no_id) c.loop-id-test.true) in
    let reported = follows_at p.frame p.cells team k c.none.result.sites (get_or ids k no_id) (c.is_cell_legal.result ≡ true) id c.none.ensures
    c.is_cell_legal.ensures.reported (omega (arith, c.loop-id-test.true, long)) in (
      λ yes. absurd (false≢true yes),
      λ legal. sym c.if-not-is_cell_legal.true ∙ reported (legal k),
    )

pub loop-id-preserved : goal.loop-id-preserved
loop-id-preserved c =
    let team = c.args.team in
    let p = c.args.placement.now in
    let cells = cells_of p.cells team in
    let k = c.loop-id.id-index in
    let ids = c.cells_of-id-items.result.now in
    let are : ids ≡ ids_of team cells = c.cells_of-id-items.ensures ∙ ap (λ (t : Cells). ids_of team (cells_of t team)) c.cells.ensures in
    let id : get_or ids k no_id ≡ id_of team k =
    ids_read team k cells ids (get_or ids k no_id) are c.loop-id-test.true (get_or_default ids k no_id (get_or ids k no_id) c.loop-id-test.true) in
    legal_so_far p.frame team (map member_of cells) k c.loop-id.invariant
    (legal_at p.frame p.cells team k c.none.result.sites (get_or ids k no_id) id c.none.ensures
    (c.is_cell_legal.ensures.legal c.if-not-is_cell_legal.false))

pub returns : goal.returns
returns c =
    let team = c.args.team in
    let p = c.args.placement.now in
    let cells = cells_of p.cells team in
    let ids = c.cells_of-id-items.result.now in
    let are : ids ≡ ids_of team cells = c.cells_of-id-items.ensures ∙ ap (λ (t : Cells). ids_of team (cells_of t team)) c.cells.ensures in
    let long = ids_long team cells ids are in
    let many = length-map cells member_of in (
      λ yes. legal_within p.frame team (map member_of cells) c.loop-id.id-index (omega (arith, many, long, c.loop-id-test.false)) c.loop-id.invariant,
      λ legal. refl,
    )
