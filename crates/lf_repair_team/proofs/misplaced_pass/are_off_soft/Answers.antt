use Rattle.std.proofs.Common.{arith, refl}
use Rattle.lf_cells.specs.Cells.{cells_of}
use Rattle.lf_repair_strategy.proofs.Ids.{ids_are}
use Rattle.lf_repair_team.proofs.Ids.{all_looked}
use Rattle.lf_repair_team.proofs.Legal.{state_there}
use Rattle.lf_repair_team.proofs.OffSoft.{all_settled, one_more_off_soft}
use Rattle.lf_repair_team.proofs.misplaced_pass.are_off_soft.Goals as goal

pub loop-own-init : goal.loop-own-init
loop-own-init g c = λ own within. absurd (omega (arith, within))

pub loop-own-preserved : goal.loop-own-preserved
loop-own-preserved g c =
    one_more_off_soft c.args.session.now.team.now c.args.floor.now c.args.targets.now c.loop-own.own c.loop-own.invariant (c.has_moved_onto_soft.ensures.settled c.if-has_moved_onto_soft.false)

pub returns : goal.returns
returns g c = λ e.
    let number = c.args.session.now.number in
    let cells = cells_of c.placement.result.now.cells number in
    let ids = c.cells_of-count.result.now in
    let are = ids_are c.placement.result.now.cells c.cells.result.now number ids c.cells.ensures c.cells_of-count.ensures in
    all_settled c.args.session.now.team.now c.args.floor.now c.args.floor.now c.loop-own.own c.args.targets.now refl
    (λ s there. all_looked c.args.floor.now number c.loop-own.own cells ids are (omega (arith, c.loop-own-test.false)) (λ s at. c.placement.ensures.cells number s at) s
    (state_there c.args.floor.now c.args.session.now.team.now number s c.requires there)) c.loop-own.invariant
