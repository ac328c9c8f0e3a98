use Rattle.lf_floor.proofs.Unplacing.{same_cells, same_through}
use Rattle.lf_floor.proofs.start_unplaced.unplace_up_to.Goals as goal

pub loop-own-init : goal.loop-own-init
loop-own-init c = same_cells c.args.cells.now

pub loop-own-preserved : goal.loop-own-preserved
loop-own-preserved c = same_through c.args.cells.now c.loop-own.cells c.unplace.new.cells c.loop-own.invariant c.unplace.ensures

pub returns : goal.returns
returns c = same_through c.args.cells.now c.loop-own.cells c.unplace-2.new.cells c.loop-own.invariant c.unplace-2.ensures
