use Rattle.std.proofs.Common.{take}
use Rattle.std.specs.Prelude.{All}
use Rattle.lf_units.specs.Packed.{IsBound}
use Rattle.lf_units.proofs.bounds_above.bound_of.Given as goal

-- The boxes read so far are bounded.
abbrev pub invariant-loop-placed : goal.invariant-loop-placed
invariant-loop-placed l = All (IsBound l.bound) (take l.placed-index l.boxes)
