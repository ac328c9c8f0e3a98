use Rattle.lf_floorplan.specs.Bounds.{IsNearDefRect}
use Rattle.lf_segments.proofs.ExtentLemmas.{HoldsFirst}
use Rattle.lf_segments.proofs.extent.extent_of.Given as goal

-- The rectangle holds the first rows.
abbrev pub invariant-loop-row : goal.invariant-loop-row
invariant-loop-row l = record {
  near : IsNearDefRect l.extent;
  rows : HoldsFirst l.frame.pitch l.frame.rows l.row-index l.extent;
}
