use Rattle.std.proofs.Common.{arith}
use Rattle.std.proofs.lemmas.Int.{ints}
use Rattle.lf_units.proofs.Same.{same_rect}
use Rattle.lf_floorplan.proofs.parts.Row.area.Goals as goal

pub returns : goal.returns
returns c = same_rect _ _ (omega (arith, ints)) (omega (arith, ints)) (omega (arith, ints)) (omega (arith, ints))
