use Rattle.lf_occupancy.specs.Building.{HaveNoMarks}
use Rattle.lf_occupancy.proofs.build.empty_marks.Given as goal

-- the strips without marks so far
abbrev pub invariant-loop : goal.invariant-loop
invariant-loop l = HaveNoMarks l.counter l.mark_lists.items
