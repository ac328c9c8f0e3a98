use Rattle.std.proofs.Common.{◌<◌, ◌<ℤ◌, ℕ, get_or}
use Rattle.lf_occupancy.specs.declared.strip_marks.Mark.{Mark}
use Rattle.lf_occupancy.proofs.strip_marks.count_front.Given as goal

-- the marks so far are below x
abbrev pub invariant-loop-n : goal.invariant-loop-n
invariant-loop-n l = (k : ℕ) → (d : Mark) → k < l.n → (get_or l.marks k d).left <ℤ l.x
