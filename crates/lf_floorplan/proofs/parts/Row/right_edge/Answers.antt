use Rattle.std.proofs.Common.{arith}
use Rattle.std.proofs.lemmas.Int.{ints}
use Rattle.lf_floorplan.proofs.parts.Row.right_edge.Goals as goal

pub returns : goal.returns
returns c = grind (arith, ints)
