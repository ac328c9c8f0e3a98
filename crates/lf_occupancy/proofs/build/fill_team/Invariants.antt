use Rattle.std.proofs.Common.{◌*◌}
use Rattle.lf_occupancy.specs.Building.{AreFilledIn, PrecedesCell, strips_to_mark}
use Rattle.lf_occupancy.proofs.build.fill_team.Given as goal

-- the cells of the batches so far are marked
abbrev pub invariant-loop-part : goal.invariant-loop-part
invariant-loop-part l = AreFilledIn l.placed.frame.now l.placed.cells.now (strips_to_mark l.placed) (PrecedesCell l.team (l.part * 65536)) l.mark_lists.items
