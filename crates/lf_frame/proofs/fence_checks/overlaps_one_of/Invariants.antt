use Rattle.std.proofs.Common.{◌≡◌, ℕ, ◌<◌, true, get_or}
use Rattle.lf_def.specs.declared.regions.Region.{Region}
use Rattle.lf_def.specs.Kinds.{is_fence}
use Rattle.lf_frame.specs.Refusals.{SharePoint}
use Rattle.lf_frame.proofs.fence_checks.overlaps_one_of.Given as goal

abbrev pub invariant-loop-other : goal.invariant-loop-other
invariant-loop-other l = (k : ℕ) (d : Region) → k < l.other-index → (is_fence (get_or l.earlier k d) ≡ true) × SharePoint (get_or l.earlier k d).rects l.region.rects → ⊥
