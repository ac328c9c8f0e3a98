use Rattle.std.proofs.Common.{◌++◌, ◌+◌, ◌<◌, ◌≤◌, ◌≡◌, List, length, get_or, ap, sym, ◌∙◌, drop, arith, subst}
use Rattle.std.specs.Prelude.{All, slice_get}
use Rattle.std.proofs.lemmas.List.{append-nil, append_assoc, at_drop_all, get_or_default}
use Rattle.lf_units.specs.declared.placed.Placed.{Placed}
use Rattle.lf_cells.specs.declared.cell.Cell.{Cell}
use Rattle.lf_cells.specs.declared.cell.CellId.{CellId}
use Rattle.lf_cells.specs.Cells.{cells_of, id_of}
use Rattle.lf_cells.proofs.TeamIds.{ids_long, ids_read}
use Rattle.lf_legalize.specs.Members.{IsSizedCell}
use Rattle.lf_legalize.specs.Others.{beside_one}
use Rattle.lf_legalize.proofs.Beside.{beside_from, beside_step}
use Rattle.lf_legalize.proofs.neighbours.other_boxes.Goals as goal

abbrev no_id : CellId
no_id = record { team = 0; own = 0 }

pub push_other-requires : goal.push_other-requires
push_other-requires c =
    let team = c.args.id.team in
    let k = c.loop-other.other-index in
    let ids = c.cells_of-other-items.result.now in
    let other : get_or ids k no_id ≡ id_of team k =
    ids_read team k (cells_of c.args.cells.now team) ids (get_or ids k no_id) c.cells_of-other-items.ensures c.loop-other-test.true
    (get_or_default ids k no_id (get_or ids k no_id) c.loop-other-test.true) in
    subst (λ (id : CellId). All (IsSizedCell c.args.frame.now) (cells_of c.args.cells.now id.team)) (sym other) c.requires

pub loop-other-preserved : goal.loop-other-preserved
loop-other-preserved c =
    let f = c.args.frame.now in
    let table = c.args.cells.now in
    let team = c.args.id.team in
    let cells = cells_of table team in
    let k = c.loop-other.other-index in
    let own = c.args.id.own in
    let one = beside_one f own k (slice_get cells k) in
    let rest = beside_from f own (k + 1) (drop (k + 1) cells) in
    let ids = c.cells_of-other-items.result.now in
    let other : get_or ids k no_id ≡ id_of team k =
    ids_read team k cells ids (get_or ids k no_id) c.cells_of-other-items.ensures c.loop-other-test.true
    (get_or_default ids k no_id (get_or ids k no_id) c.loop-other-test.true) in
    let within : k < length cells = omega (arith, c.loop-other-test.true, ids_long team cells ids c.cells_of-other-items.ensures) in
    ap (λ (bs : List Placed). bs ++ rest)
    (c.in_ok-push_other.ensures
    ∙ ap (λ (id : CellId). c.loop-other.others.items ++ beside_one f own id.own (slice_get (cells_of table id.team) id.own)) other)
    ∙ append_assoc c.loop-other.others.items one rest
    ∙ ap (λ (bs : List Placed). c.loop-other.others.items ++ bs) (sym (beside_step f own k cells within))
    ∙ c.loop-other.invariant

pub returns : goal.returns
returns c =
    let cells = cells_of c.args.cells.now c.args.id.team in
    let k = c.loop-other.other-index in
    let others = c.loop-other.others.items in
    let past : length cells ≤ k = omega
    (arith, c.loop-other-test.false, ids_long c.args.id.team cells c.cells_of-other-items.result.now c.cells_of-other-items.ensures) in
    sym (append-nil others) ∙ sym (at_drop_all (λ (xs : List Cell). others ++ beside_from c.args.frame.now c.args.id.own k xs) cells k past)
    ∙ c.loop-other.invariant
