use Rattle.std.proofs.Common.{◌≡◌, ◌<◌, length, true, false, Some, subst, sym, ap, ◌∙◌, arith, get_or}
use Rattle.std.specs.Prelude.{is_none}
use Rattle.std.proofs.lemmas.List.{get_or_default}
use Rattle.lf_cells.specs.declared.cell.CellId.{CellId}
use Rattle.lf_cells.specs.Cells.{cells_of, id_of, working_at}
use Rattle.lf_cells.proofs.TeamIds.{ids_long, ids_read}
use Rattle.lf_floor_verbs.proofs.Unplaced.{first_at, none_at, one_more_placed}
use Rattle.lf_floor_verbs.proofs.cell_queries.first_unplaced.Goals as goal

abbrev no_id : CellId
no_id = record { team = 0; own = 0 }

pub loop-id-init : goal.loop-id-init
loop-id-init c = λ i less. absurd (omega (arith, less))

pub returns-then-is_unplaced : goal.returns-then-is_unplaced
returns-then-is_unplaced c =
    let table = c.args.cells.now in
    let k = c.loop-id.id-index in
    let cells = cells_of table c.args.number in
    let ids = c.cells_of-id-items.result.now in
    let id : get_or ids k no_id ≡ id_of c.args.number k =
    ids_read c.args.number k cells ids (get_or ids k no_id) c.cells_of-id-items.ensures c.loop-id-test.true
    (get_or_default ids k no_id (get_or ids k no_id) c.loop-id-test.true) in
    let within : k < length cells = omega (arith, c.loop-id-test.true, ids_long c.args.number cells c.cells_of-id-items.result.now c.cells_of-id-items.ensures) in
    ap (λ (i : CellId). Some i.own) id
    ∙ sym (first_at cells k c.loop-id.invariant within
    (subst (λ (i : CellId). is_none (working_at (cells_of table i.team) i.own) ≡ true) id (sym (c.if-is_unplaced.ensures {u = tt}))))

pub loop-id-preserved : goal.loop-id-preserved
loop-id-preserved c =
    let table = c.args.cells.now in
    let k = c.loop-id.id-index in
    let cells = cells_of table c.args.number in
    let ids = c.cells_of-id-items.result.now in
    let id : get_or ids k no_id ≡ id_of c.args.number k =
    ids_read c.args.number k cells ids (get_or ids k no_id) c.cells_of-id-items.ensures c.loop-id-test.true
    (get_or_default ids k no_id (get_or ids k no_id) c.loop-id-test.true) in
    one_more_placed cells k c.loop-id.invariant
    (subst (λ (i : CellId). is_none (working_at (cells_of table i.team) i.own) ≡ false) id (sym (c.if-is_unplaced.ensures {u = tt})))

pub returns : goal.returns
returns c =
    let cells = cells_of c.args.cells.now c.args.number in
    let many = ids_long c.args.number cells c.cells_of-id-items.result.now c.cells_of-id-items.ensures in
    sym (none_at cells (λ i less. c.loop-id.invariant i (omega (arith, less, c.loop-id-test.false, many))))
