use Rattle.std.proofs.Common.{ℕ, ◌<◌, get_or}
use Rattle.lf_units.specs.declared.placed.Placed.{Placed}
use Rattle.lf_units.specs.Area.{SharesPoint}
use Rattle.lf_rules.proofs.overlap.first_overlapping.Given as goal

abbrev pub invariant-loop-other : goal.invariant-loop-other
invariant-loop-other l = (k : ℕ) (d : Placed) → k < l.other-index → SharesPoint l.rect (get_or l.others k d).rect → ⊥
