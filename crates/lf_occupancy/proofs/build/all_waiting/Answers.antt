use Rattle.std.proofs.Common.{◌∙◌, arith}
use Rattle.std.proofs.lemmas.List.{take_all}
use Rattle.lf_occupancy.proofs.Building.{waiting_further}
use Rattle.lf_occupancy.proofs.build.all_waiting.Goals as goal

pub loop-number-preserved : goal.loop-number-preserved
loop-number-preserved c =
    waiting_further c.args.ids.now c.loop-number.number c.loop-number.list.items _ c.waiting_cell.result c.loop-number-test.true c.waiting_cell.ensures
    c.in_ok-push.ensures.items c.loop-number.invariant

pub returns : goal.returns
returns c = c.loop-number.invariant ∙ take_all c.loop-number.number c.args.ids.now (omega arith)
