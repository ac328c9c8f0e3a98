use Rattle.std.proofs.Common.{arith}
use Rattle.lf_repair_team.proofs.LastPass.{all_movable, none_movable, one_more_movable}
use Rattle.lf_repair_team.proofs.last_pass.movable_of.Goals as goal

pub loop-own-init : goal.loop-own-init
loop-own-init c = none_movable c.args.flags.now c.args.cells.now c.new-movable.result.items c.new-movable.ensures.items

pub loop-own-preserved : goal.loop-own-preserved
loop-own-preserved c =
    one_more_movable c.args.flags.now c.args.cells.now c.loop-own.own-index 0 c.loop-own.movable.items c.note_movable.new.movable.items c.loop-own-test.true c.in_ok-note_movable.ensures
    c.loop-own.invariant

pub returns : goal.returns
returns c = all_movable c.args.flags.now c.args.cells.now c.loop-own.own-index c.loop-own.movable.items (omega (arith, c.loop-own-test.false)) c.loop-own.invariant
