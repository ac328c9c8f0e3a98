use Rattle.std.proofs.Common.{◌≡◌, ℕ, ◌<◌}
use Rattle.lf_cells.specs.Cells.{cells_of, committed_at, working_at}
use Rattle.lf_improve_team.proofs.team.is_committed.Given as goal

abbrev pub invariant-loop-id : goal.invariant-loop-id
invariant-loop-id l = (own : ℕ) → own < l.id-index
    → committed_at (cells_of l.placement.cells l.number) own ≡ working_at (cells_of l.placement.cells l.number) own
