use Rattle.std.proofs.Common.{◌≡◌, ◌<◌, ◌≤◌, length, get_or, take, ap, sym, ◌∙◌, List, arith}
use Rattle.std.proofs.lemmas.Grind.{common_steps}
use Rattle.lf_floorplan.specs.declared.cells.UnnamedCell.{UnnamedCell}
use Rattle.lf_cells.proofs.Filling.{none_yet, one_more, all_taken, own_few}
use Rattle.lf_cells.proofs.table_parts.TableParts.of_cells.Goals as goal

pub loop-cell-init : goal.loop-cell-init
loop-cell-init c =
    none_yet c.args.count
    (record { names = c.args.loaded.names; owners = c.new.result; teams = c.in_ok-empty_teams.field-0; ids = c.in_ok-empty_ids.field-0 })
    c.new.ensures.items
    (c.in_ok-empty_teams.ensures {u = tt}) (c.in_ok-empty_ids.ensures {u = tt})

pub add_cell-requires-clause-team : goal.add_cell-requires-clause-team
add_cell-requires-clause-team c =
    let same : c.deref-cell-items.result.now ≡ c.args.loaded.cells.items = c.deref-cell-items.ensures.value in
    let within : c.loop-cell.cell-index < length c.args.loaded.cells.items = rw same at c.loop-cell-test.true in
    let is : c.cell-item.result ≡ get_or c.args.loaded.cells.items c.loop-cell.cell-index c.cell-item.result = rw same at c.cell-item.is in
    let inside : (get_or c.args.loaded.cells.items c.loop-cell.cell-index c.cell-item.result).team < c.args.count =
    c.requires.known c.loop-cell.cell-index c.cell-item.result within in
    let item : c.cell-item.result.team < c.args.count = rw (← is) at inside in
    omega (arith, item, c.loop-cell.invariant.count_is)

pub add_cell-requires-clause-ids : goal.add_cell-requires-clause-ids
add_cell-requires-clause-ids c = c.loop-cell.invariant.ids_count ∙ sym c.loop-cell.invariant.count_is

pub add_cell-requires-clause-few_teams : goal.add_cell-requires-clause-few_teams
add_cell-requires-clause-few_teams c = omega (arith, c.loop-cell.invariant.count_is, c.requires.few_teams)

pub add_cell-requires-clause-few_cells : goal.add_cell-requires-clause-few_cells
add_cell-requires-clause-few_cells c =
    let part : length (take c.loop-cell.cell-index c.args.loaded.cells.items) ≤ length c.args.loaded.cells.items = grind (arith, common_steps) in
    omega (arith, part, c.loop-cell.invariant.many, c.requires.few_cells)

pub add_cell-requires-clause-few_own : goal.add_cell-requires-clause-few_own
add_cell-requires-clause-few_own c =
    let part : length (take c.loop-cell.cell-index c.args.loaded.cells.items) ≤ length c.args.loaded.cells.items = grind (arith, common_steps) in
    rw (c.loop-cell.invariant.each c.cell-item.result.team)
    (omega (arith, part, c.requires.few_cells, own_few c.cell-item.result.team 0 (take c.loop-cell.cell-index c.args.loaded.cells.items)))

pub loop-cell-preserved : goal.loop-cell-preserved
loop-cell-preserved c =
    let same : c.deref-cell-items.result.now ≡ c.args.loaded.cells.items = c.deref-cell-items.ensures.value in
    let within : c.loop-cell.cell-index < length c.args.loaded.cells.items = rw same at c.loop-cell-test.true in
    let is : c.cell-item.result ≡ get_or c.args.loaded.cells.items c.loop-cell.cell-index c.cell-item.result = rw same at c.cell-item.is in
    let inside : (get_or c.args.loaded.cells.items c.loop-cell.cell-index c.cell-item.result).team < c.args.count =
    c.requires.known c.loop-cell.cell-index c.cell-item.result within in
    let item : c.cell-item.result.team < c.args.count = rw (← is) at inside in
    one_more c.args.loaded.names c.args.loaded.cells.items c.loop-cell.cell-index c.args.count c.cell-item.result c.loop-cell.parts c.add_cell.new.self
    within is (omega (arith, item, c.loop-cell.invariant.count_is)) c.loop-cell.invariant
    (c.in_ok-add_cell.ensures {u = tt})

pub returns : goal.returns
returns c =
    let count = ap (λ (cells : List UnnamedCell). length cells) c.deref-cell-items.ensures.value in
    all_taken c.args.loaded.names c.args.loaded.cells.items c.loop-cell.cell-index c.args.count c.loop-cell.parts (omega (arith, c.loop-cell-test.false, count))
    c.loop-cell.invariant
