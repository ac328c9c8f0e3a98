use Rattle.std.proofs.Common.{arith}
use Rattle.lf_cells.specs.Cells.{cells_of}
use Rattle.lf_repair_strategy.proofs.Ids.{ids_are}
use Rattle.lf_repair_team.proofs.Ids.{all_looked}
use Rattle.lf_repair_team.proofs.Legal.{state_there}
use Rattle.lf_repair_team.proofs.Listing.{all_flagged, next_flagged, none_flagged}
use Rattle.lf_repair_team.proofs.repair_input.listed_of.Goals as goal

pub loop-own-init : goal.loop-own-init
loop-own-init g c = none_flagged c.args.impossible.now c.args.team.now c.args.floor.now c.new-flags.result.items c.new-flags.ensures.items

pub loop-own-preserved : goal.loop-own-preserved
loop-own-preserved g c =
    next_flagged c.args.impossible.now c.args.team.now c.args.floor.now c.loop-own.own c.loop-own.flags.items c.push.new.self.items c.is_cell_listed.result c.is_cell_listed.ensures
    c.in_ok-push.ensures.items c.loop-own.invariant

pub returns : goal.returns
returns g c =
    let floor = c.args.floor.now in
    let number = c.args.number in
    let cells = cells_of c.placement.result.now.cells number in
    let ids = c.cells_of-count.result.now in
    let are = ids_are c.placement.result.now.cells c.cells.result.now number ids c.cells.ensures c.cells_of-count.ensures in
    all_flagged c.args.impossible.now c.args.team.now floor c.loop-own.own c.loop-own.flags.items
    (λ s there. all_looked floor number c.loop-own.own cells ids are (omega (arith, c.loop-own-test.false)) (λ s at. c.placement.ensures.cells number s at) s
    (state_there floor c.args.team.now number s c.requires there)) c.loop-own.invariant
