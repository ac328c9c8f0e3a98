use Rattle.std.proofs.Common.{◌+◌, ◌-◌, drop, length}
use Rattle.lf_units.proofs.Overlaps.{Overlaps}
use Rattle.lf_units.proofs.meet.spans_meet.Given as goal

-- The intersection so far, and the rest of each list.
abbrev pub invariant-loop-i : goal.invariant-loop-i
invariant-loop-i l = Overlaps l.a l.b l.overlapping_one.items (drop l.i l.a) (drop l.j l.b)

abbrev pub decreases-loop-i : goal.decreases-loop-i
decreases-loop-i l = (length l.a - l.i) + (length l.b - l.j)
