use Rattle.std.proofs.Common.{map}
use Rattle.lf_occupancy.specs.Building.{AreFilledIn, id_at, strips_to_mark}
use Rattle.lf_occupancy.proofs.Parting.{IsPassed}
use Rattle.lf_occupancy.proofs.build.fill_in.Given as goal

-- the cells in front of the batch are marked, and those of it that were visited
abbrev pub invariant-loop-waiting : goal.invariant-loop-waiting
invariant-loop-waiting l =
    AreFilledIn l.placed.frame.now l.placed.cells.now (strips_to_mark l.placed) (IsPassed l.team l.from (map (id_at l.ids) l.waiting-items) l.waiting-index)
    l.mark_lists.items
