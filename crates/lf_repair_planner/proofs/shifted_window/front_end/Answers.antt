use Rattle.std.proofs.Common.{arith}
use Rattle.lf_repair_planner.proofs.Packed.{front_end_is}
use Rattle.lf_repair_planner.proofs.shifted_window.front_end.Goals as goal

pub returns : goal.returns
returns c = front_end_is c.args.room c.args.first c.args.cells.now _ (omega arith) c.requires.first c.requires.packed
