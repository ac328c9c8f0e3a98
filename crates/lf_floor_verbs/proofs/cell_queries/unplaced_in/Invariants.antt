use Rattle.std.proofs.Common.{◌≡◌, ◌≤◌, take}
use Rattle.std.specs.Prelude.{count_by, is_none}
use Rattle.lf_cells.specs.Cells.{cells_of}
use Rattle.lf_floor_verbs.proofs.cell_queries.unplaced_in.Given as goal

-- the count is the number of unplaced cells so far
abbrev pub invariant-loop-id : goal.invariant-loop-id
invariant-loop-id l = record {
  few : l.unplaced ≤ l.id-index;
  count : l.unplaced ≡ count_by (λ c. is_none c.working) (take l.id-index (cells_of l.cells l.number));
}
