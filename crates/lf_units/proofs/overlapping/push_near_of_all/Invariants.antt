use Rattle.std.proofs.Common.{take}
use Rattle.lf_units.specs.Packed.{AddsNear}
use Rattle.lf_units.proofs.overlapping.push_near_of_all.Given as goal

-- The boxes found among those read so far.
abbrev pub invariant-loop-placed : goal.invariant-loop-placed
invariant-loop-placed l = AddsNear (take l.placed-index l.boxes) l.rect l.initial.found.items l.found.items
