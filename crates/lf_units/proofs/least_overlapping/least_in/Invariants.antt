use Rattle.std.proofs.Common.{take}
use Rattle.lf_units.specs.Packed.{IsLeastOf}
use Rattle.lf_units.proofs.least_overlapping.least_in.Given as goal

-- The least of the number at the start and of the boxes read so far.
abbrev pub invariant-loop-placed : goal.invariant-loop-placed
invariant-loop-placed l = IsLeastOf (take l.placed-index l.boxes) l.rect l.but l.fn.so_far l.least
