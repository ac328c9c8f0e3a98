use Rattle.std.proofs.Common.{None}
use Rattle.lf_floor.proofs.Unplacing.{one_moved}
use Rattle.lf_floor.proofs.start_unplaced.unplace.Goals as goal

pub returns : goal.returns
returns c =
    one_moved c.args.cells.now c.set_working.new.self c.args.id.team c.args.id.own None c.set_working.ensures.cells c.set_working.ensures.components
