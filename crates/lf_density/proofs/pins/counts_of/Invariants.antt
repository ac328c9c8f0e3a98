use Rattle.std.proofs.Common.{take}
use Rattle.lf_density.proofs.PinLists.{ArePinCounts}
use Rattle.lf_density.proofs.pins.counts_of.Given as goal

-- the numbers of the points so far
abbrev pub invariant-loop-point : goal.invariant-loop-point
invariant-loop-point l = ArePinCounts l.grid (take l.point-index l.points) l.counts.items
