use Rattle.lf_state_text.specs.Saved.{team_views}
use Rattle.lf_floor.proofs.Emptying.{PlacedSoFar}
use Rattle.lf_floor.proofs.restored_cells.place_in_table.Given as goal

-- the teams so far are placed, and their rows have no cells
abbrev pub invariant-loop-team : goal.invariant-loop-team
invariant-loop-team l = PlacedSoFar l.team (team_views l.fn.rows) l.fn.cells l.cells l.rows
