use Rattle.std.proofs.Common.{get_or, arith}
use Rattle.lf_cells.specs.Cells.{cells_of}
use Rattle.lf_cells.proofs.TeamIds.{ids_long}
use Rattle.lf_repair_strategy.proofs.Ids.{id_at, ids_are, no_id, working_read}
use Rattle.lf_repair_strategy.proofs.Targets.{all_at_target, none_target, one_more_target}
use Rattle.lf_repair_strategy.proofs.pass.working_places.Goals as goal

pub loop-id-init : goal.loop-id-init
loop-id-init c = none_target (cells_of c.args.placement.now.cells c.args.number) c.new-targets.result.items c.new-targets.ensures.items

pub loop-id-preserved : goal.loop-id-preserved
loop-id-preserved c =
    let number = c.args.number in
    let k = c.loop-id.id-index in
    let cells = cells_of c.args.placement.now.cells number in
    let ids = c.cells_of-id-items.result.now in
    let are = ids_are c.args.placement.now.cells c.cells.result.now number ids c.cells.ensures c.cells_of-id-items.ensures in
    one_more_target cells k c.loop-id.targets.items c.push.new.self.items c.working.result
    (working_read c.args.placement.now.cells c.cells-in-loop-id.result.now number k (get_or ids k no_id) c.working.result c.cells-in-loop-id.ensures
    (id_at number k cells ids are c.loop-id-test.true) c.working.ensures) c.in_ok-push.ensures.items c.loop-id.invariant

pub returns : goal.returns
returns c =
    let number = c.args.number in
    let k = c.loop-id.id-index in
    let cells = cells_of c.args.placement.now.cells number in
    let ids = c.cells_of-id-items.result.now in
    let are = ids_are c.args.placement.now.cells c.cells.result.now number ids c.cells.ensures c.cells_of-id-items.ensures in
    all_at_target cells k c.loop-id.targets.items (omega (arith, c.loop-id-test.false, ids_long number cells ids are)) c.loop-id.invariant
