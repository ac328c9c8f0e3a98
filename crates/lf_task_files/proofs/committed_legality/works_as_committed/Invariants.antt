use Rattle.std.proofs.Common.{◌≡◌, ◌<◌, ℕ, Some}
use Rattle.std.specs.Prelude.{slice_get}
use Rattle.lf_cells.specs.declared.cell.Cell.{Cell}
use Rattle.lf_cells.specs.Cells.{cells_of}
use Rattle.lf_task_files.proofs.committed_legality.works_as_committed.Given as goal

-- The cells so far work at their committed places.
abbrev pub invariant-loop-id : goal.invariant-loop-id
invariant-loop-id l = (k : ℕ) (c : Cell) → k < l.id-index → slice_get (cells_of l.cells l.team) k ≡ Some c → c.working ≡ c.committed
