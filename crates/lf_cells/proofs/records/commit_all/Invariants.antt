use Rattle.std.proofs.Common.{◌≡◌, ◌++◌, map, take, drop}
use Rattle.lf_cells.specs.Records.{committed_record}
use Rattle.lf_cells.proofs.records.commit_all.Given as goal

-- The cells in front of this one are committed.
abbrev pub invariant-loop-i : goal.invariant-loop-i
invariant-loop-i l = l.slots.items ≡ map committed_record (take l.i l.initial.slots.items) ++ drop l.i l.initial.slots.items
