use Rattle.lf_occupancy.specs.Building.{AreFilledIn, PrecedesCell, strips_to_mark}
use Rattle.lf_occupancy.proofs.build.marks_of_strips.Given as goal

-- the cells of the teams so far are marked
abbrev pub invariant-loop-team : goal.invariant-loop-team
invariant-loop-team l = AreFilledIn l.placed.frame.now l.placed.cells.now (strips_to_mark l.placed) (PrecedesCell l.team 0) l.mark_lists.items
