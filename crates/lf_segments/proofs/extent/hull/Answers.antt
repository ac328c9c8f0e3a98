use Rattle.std.proofs.Common.{FitsSigned, w64, rules}
use Rattle.std.proofs.lemmas.Int.{to_z-of_z}
use Rattle.lf_segments.proofs.ExtentLemmas.{same_rect}
use Rattle.lf_segments.proofs.extent.hull.Goals as goal

pub returns : goal.returns
returns c =
    let a : FitsSigned w64 c.lesser.result = search rules in
    let b : FitsSigned w64 c.lesser-2.result = search rules in
    let d : FitsSigned w64 c.greater.result = search rules in
    let e : FitsSigned w64 c.greater-2.result = search rules in
    rw (to_z-of_z w64 c.lesser.result a, to_z-of_z w64 c.lesser-2.result b, to_z-of_z w64 c.greater.result d, to_z-of_z w64 c.greater-2.result e)
    (same_rect _ _ _ _ _ _ _ _ c.lesser.ensures c.lesser-2.ensures c.greater.ensures c.greater-2.ensures)
