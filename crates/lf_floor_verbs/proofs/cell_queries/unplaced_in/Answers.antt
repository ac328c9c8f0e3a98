use Rattle.std.proofs.Common.{◌≡◌, ◌∙◌, ◌<◌, List, Bool, length, true, false, ap, subst, sym, arith, get_or}
use Rattle.std.specs.Prelude.{count_by, is_none}
use Rattle.std.proofs.lemmas.List.{get_or_default, take_all}
use Rattle.lf_cells.specs.declared.cell.Cell.{Cell}
use Rattle.lf_cells.specs.declared.cell.CellId.{CellId}
use Rattle.lf_cells.specs.Cells.{cells_of, id_of, working_at}
use Rattle.lf_cells.proofs.TeamIds.{ids_long, ids_read}
use Rattle.lf_floor_verbs.proofs.Unplaced.{counted_no, counted_yes}
use Rattle.lf_floor_verbs.proofs.cell_queries.unplaced_in.Goals.{then-is_unplaced, else-is_unplaced}
use Rattle.lf_floor_verbs.proofs.cell_queries.unplaced_in.Goals as goal

abbrev no_id : CellId
no_id = record { team = 0; own = 0 }

pub loop-id-preserved : goal.loop-id-preserved
loop-id-preserved c =
    let table = c.args.cells.now in
    let k = c.loop-id.id-index in
    let cells = cells_of table c.args.number in
    let ids = c.cells_of-id-items.result.now in
    let id : get_or ids k no_id ≡ id_of c.args.number k =
    ids_read c.args.number k cells ids (get_or ids k no_id) c.cells_of-id-items.ensures c.loop-id-test.true
    (get_or_default ids k no_id (get_or ids k no_id) c.loop-id-test.true) in
    let within : k < length cells = omega (arith, c.loop-id-test.true, ids_long c.args.number cells c.cells_of-id-items.result.now c.cells_of-id-items.ensures) in
    let unplaced : Bool → CellId → Type 0 = λ b i. is_none (working_at (cells_of table i.team) i.own) ≡ b in
    elim c.if-is_unplaced.branch [
      | then-is_unplaced w ↦
          record {
            few = rw w.unplaced-is (omega (arith, c.loop-id.invariant.few));
            count = rw w.unplaced-is (counted_yes cells k c.loop-id.unplaced within (subst (unplaced true) id (sym c.is_unplaced.ensures ∙ w.if-is_unplaced.true)) c.loop-id.invariant.count);
          }
      | else-is_unplaced w ↦
          record {
            few = rw w.unplaced-is (omega (arith, c.loop-id.invariant.few));
            count = rw w.unplaced-is (counted_no cells k c.loop-id.unplaced within (subst (unplaced false) id (sym c.is_unplaced.ensures ∙ w.if-is_unplaced.false)) c.loop-id.invariant.count);
          }
    ]

pub returns : goal.returns
returns c =
    let cells = cells_of c.args.cells.now c.args.number in
    let many = ids_long c.args.number cells c.cells_of-id-items.result.now c.cells_of-id-items.ensures in
    c.loop-id.invariant.count
    ∙ ap (λ (cs : List Cell). count_by (λ c. is_none c.working) cs) (take_all c.loop-id.id-index cells (omega (arith, many, c.loop-id-test.false)))
