use Rattle.std.proofs.Common.{◌≡◌, ◌+◌, length, take}
use Rattle.lf_repair_bounds.specs.MinDisplacements.{AreMaxMinDisplacements}
use Rattle.lf_repair_bounds.proofs.min_displacement.max_min_displacements.Given as goal

-- the numbers are those of the cells so far
abbrev pub invariant-loop-at : goal.invariant-loop-at
invariant-loop-at l =
    (length l.largest.items ≡ length l.loaded.frame.teams + 1) × AreMaxMinDisplacements l.loaded.frame (take l.at l.loaded.cells) l.largest.items
