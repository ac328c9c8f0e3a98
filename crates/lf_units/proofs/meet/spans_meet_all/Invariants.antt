use Rattle.std.proofs.Common.{take, map}
use Rattle.lf_units.specs.Spans.{IsMeetAll}
use Rattle.lf_units.proofs.meet.spans_meet_all.Given as goal

-- The intersection of the lists read so far.
abbrev pub invariant-loop-i : goal.invariant-loop-i
invariant-loop-i l = IsMeetAll (take l.i (map (λ list. list.items) l.lists)) l.overlapping_one.items
