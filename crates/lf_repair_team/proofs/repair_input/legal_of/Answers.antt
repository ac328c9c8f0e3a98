use Rattle.std.proofs.Common.{get_or}
use Rattle.lf_cells.specs.Cells.{cells_of}
use Rattle.lf_repair_strategy.proofs.Ids.{id_at, ids_are, no_id}
use Rattle.lf_repair_team.proofs.Ids.{all_looked, looked_within}
use Rattle.lf_repair_team.proofs.Marking.{all_marked, marked_at, none_marked}
use Rattle.lf_repair_team.proofs.repair_input.legal_of.Goals as goal

pub loop-id-init : goal.loop-id-init
loop-id-init g c = λ team named. none_marked team c.args.floor.now c.new-legal.result.items c.new-legal.ensures.items

pub loop-id-preserved : goal.loop-id-preserved
loop-id-preserved g c = λ team named.
    let floor = c.args.floor.now in
    let number = c.args.number in
    let k = c.loop-id.id-index in
    let cells = cells_of c.placement.result.now.cells number in
    let ids = c.cells_of-id-items.result.now in
    let are = ids_are c.placement.result.now.cells c.cells.result.now number ids c.cells.ensures c.cells_of-id-items.ensures in
    marked_at team floor number k (get_or ids k no_id) c.loop-id.legal.items c.mark_cell.new.legal.items (id_at number k cells ids are c.loop-id-test.true) named
    (looked_within team floor number k cells ids are c.loop-id-test.true named (λ s at. c.placement.ensures.cells number s at))
    (c.loop-id.invariant team named) c.in_ok-mark_cell.ensures

pub returns : goal.returns
returns g c = λ team named.
    let floor = c.args.floor.now in
    let number = c.args.number in
    let k = c.loop-id.id-index in
    let cells = cells_of c.placement.result.now.cells number in
    let ids = c.cells_of-id-items.result.now in
    let are = ids_are c.placement.result.now.cells c.cells.result.now number ids c.cells.ensures c.cells_of-id-items.ensures in
    all_marked team floor number k c.loop-id.legal.items named
    (all_looked floor number k cells ids are c.loop-id-test.false (λ s at. c.placement.ensures.cells number s at)) (c.loop-id.invariant team named)
