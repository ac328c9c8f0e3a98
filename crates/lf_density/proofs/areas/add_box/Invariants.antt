use Rattle.std.proofs.Common.{◌≡◌, length}
use Rattle.lf_density.specs.Bins.{area_in}
use Rattle.lf_density.proofs.Bins.{RowsSoFar}
use Rattle.lf_density.proofs.areas.add_box.Given as goal

abbrev pub invariant-loop-row : goal.invariant-loop-row
invariant-loop-row l = record {
  many : length l.areas.items ≡ length l.initial.areas.items;
  so_far : RowsSoFar l.grid.columns l.grid.rows (λ column row. area_in l.grid column row l.rect) l.initial.areas.items l.areas.items l.row;
}
