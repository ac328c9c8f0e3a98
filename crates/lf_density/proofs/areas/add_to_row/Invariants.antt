use Rattle.std.proofs.Common.{◌≡◌, ◌*◌, length}
use Rattle.lf_density.specs.Bins.{shared_with}
use Rattle.lf_density.proofs.Bins.{RowSoFar}
use Rattle.lf_density.proofs.areas.add_to_row.Given as goal

abbrev pub invariant-loop-column : goal.invariant-loop-column
invariant-loop-column l = record {
  many : length l.areas.items ≡ length l.initial.areas.items;
  so_far : RowSoFar l.grid.columns l.row (λ column. shared_with l.grid.side l.x1 l.x2 column * l.high) l.initial.areas.items l.areas.items l.column;
}
