use Rattle.std.proofs.Common.{◌≢◌, ◌<◌, ◌≤◌, ℕ, get_or}
use Rattle.lf_occupancy.specs.declared.strip_marks.Mark.{Mark}
use Rattle.lf_occupancy.proofs.strip_marks.place_from.Given as goal

-- no mark visited is the cell's
abbrev pub invariant-loop-n : goal.invariant-loop-n
invariant-loop-n l = (k : ℕ) (d : Mark) → l.from ≤ k → k < l.n → (get_or l.marks k d).own ≢ l.own
