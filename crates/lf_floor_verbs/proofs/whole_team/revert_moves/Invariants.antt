use Rattle.std.proofs.Common.{◌≡◌}
use Rattle.lf_cells.specs.Cells.{cells_of}
use Rattle.lf_placement.specs.Placements.{moves_applied}
use Rattle.lf_floor_verbs.proofs.Reverting.{back_first}
use Rattle.lf_floor_verbs.proofs.whole_team.revert_moves.Given as goal

-- the moves so far move the cells so far back
abbrev pub invariant-loop-id : goal.invariant-loop-id
invariant-loop-id l = moves_applied l.moves (cells_of l.cells l.number) ≡ back_first l.id-index (cells_of l.cells l.number)
