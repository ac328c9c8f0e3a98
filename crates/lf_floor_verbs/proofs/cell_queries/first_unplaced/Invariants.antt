use Rattle.std.proofs.Common.{◌≡◌, ◌<◌, ℕ, false}
use Rattle.std.specs.Prelude.{is_none}
use Rattle.lf_cells.specs.Cells.{cells_of, working_at}
use Rattle.lf_floor_verbs.proofs.cell_queries.first_unplaced.Given as goal

-- the cells so far are placed
abbrev pub invariant-loop-id : goal.invariant-loop-id
invariant-loop-id l = (i : ℕ) → i < l.id-index → is_none (working_at (cells_of l.cells l.number) i) ≡ false
