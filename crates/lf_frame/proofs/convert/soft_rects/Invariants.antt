use Rattle.std.proofs.Common.{◌≡◌, ◌++◌, drop}
use Rattle.std.specs.Prelude.{flat_map}
use Rattle.lf_frame.specs.Loads.{softly_blocked}
use Rattle.lf_frame.proofs.convert.soft_rects.Given as goal

-- The rectangles so far, followed by those of the remaining blockages, are all of them.
abbrev pub invariant-loop-blockage : goal.invariant-loop-blockage
invariant-loop-blockage l = l.soft ++ flat_map softly_blocked (drop l.blockage-index l.blockages) ≡ flat_map softly_blocked l.blockages
