use Rattle.std.proofs.Common.{◌≡◌, take}
use Rattle.lf_task_improve.specs.Openings.{teams_of_cells}
use Rattle.lf_task_improve.proofs.opening.teams_of_cells.Given as goal

abbrev pub invariant-loop-at : goal.invariant-loop-at
invariant-loop-at l = l.teams.items ≡ take l.at (teams_of_cells l.loaded)
