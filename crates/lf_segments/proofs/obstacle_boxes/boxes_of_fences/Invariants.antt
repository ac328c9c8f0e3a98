use Rattle.std.proofs.Common.{◌≡◌, ◌++◌, drop}
use Rattle.lf_segments.specs.Boxes.{fence_boxes}
use Rattle.lf_segments.proofs.obstacle_boxes.boxes_of_fences.Given as goal

-- The boxes so far, followed by those of the remaining fences, are all.
abbrev pub invariant-loop-own : goal.invariant-loop-own
invariant-loop-own l = l.boxes.items ++ fence_boxes l.own (drop l.own l.teams) ≡ fence_boxes 0 l.teams
