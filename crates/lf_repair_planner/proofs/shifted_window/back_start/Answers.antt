use Rattle.std.proofs.Common.{arith}
use Rattle.lf_repair_planner.proofs.Packed.{back_start_is}
use Rattle.lf_repair_planner.proofs.shifted_window.back_start.Goals as goal

pub returns : goal.returns
returns c = back_start_is c.args.room c.args.last c.args.cells.now _ (omega arith) c.requires.packed
