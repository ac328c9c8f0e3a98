use Rattle.std.proofs.Common.{FitsSigned, w64, rules}
use Rattle.std.proofs.lemmas.Int.{to_z-of_z}
use Rattle.lf_legalize.proofs.extent.nearest_point.Goals as goal

pub returns : goal.returns
returns c =
    let f : FitsSigned w64 c.nearest_in-x.result = search rules in
    let g : FitsSigned w64 c.nearest_in-y.result = search rules in
    rw (to_z-of_z w64 c.nearest_in-x.result f, to_z-of_z w64 c.nearest_in-y.result g) record { across = c.nearest_in-x.ensures; up = c.nearest_in-y.ensures }
