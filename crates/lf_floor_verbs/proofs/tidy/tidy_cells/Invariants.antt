use Rattle.std.proofs.Common.{◌≡◌, ◌≤◌, ◌-◌, List, map}
use Rattle.lf_rules.specs.Legalizer.{Legalizer}
use Rattle.lf_rules.specs.Tidy.{Going, tidied, tidied_from}
use Rattle.lf_cells.specs.Cells.{cells_of}
use Rattle.lf_legalize.specs.Members.{member_of}
use Rattle.lf_cells.specs.declared.cell.Cell.{Cell}
use Rattle.lf_placement.specs.Placements.{HaveMoved}
use Rattle.lf_floor_verbs.specs.Marking.{AreMarked}
use Rattle.lf_floor_verbs.specs.Tables.{OnlyMovesTeam}
use Rattle.lf_floor_verbs.proofs.tidy.tidy_cells.Given as goal

-- tidying continues from the cells so far, which differ from the old ones in their working places
-- alone; the cells with marks are legal
abbrev pub invariant-loop-own : goal.invariant-loop-own
invariant-loop-own g l = record {
  going : (j : Legalizer)
      → tidied_from j l.initial.placement.frame l.context.number l.context.padding.sites l.own (l.own-end - l.own)
      (Going (map member_of (cells_of l.placement.cells l.context.number)) l.moved)
      ≡ tidied j l.initial.placement.frame l.context.number l.context.padding.sites (map member_of (cells_of l.initial.placement.cells l.context.number));
  moved : (before : List Cell) → HaveMoved before l.initial.moves (cells_of l.initial.placement.cells l.context.number)
      → HaveMoved before l.moves (cells_of l.placement.cells l.context.number);
  only : OnlyMovesTeam l.context.number l.initial.placement l.placement;
  marked : AreMarked l.initial.placement.frame l.context.number l.context.padding.sites (cells_of l.placement.cells l.context.number) l.marks;
  few : l.moved ≤ l.own;
}
