use Rattle.std.proofs.Common.{◌≡◌, ◌++◌, drop}
use Rattle.std.specs.Prelude.{flat_map}
use Rattle.lf_frame.specs.Loads.{blocked}
use Rattle.lf_frame.proofs.convert.push_blockages.Given as goal

-- The obstacles so far, followed by those of the remaining blockages, are all of them.
abbrev pub invariant-loop-blockage : goal.invariant-loop-blockage
invariant-loop-blockage l = l.obstacles ++ flat_map blocked (drop l.blockage-index l.blockages) ≡ l.initial.obstacles ++ flat_map blocked l.blockages
