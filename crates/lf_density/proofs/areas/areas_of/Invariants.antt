use Rattle.std.proofs.Common.{◌≡◌, ◌+◌, ◌*◌, ◌<◌, ℕ, get_or, length, take}
use Rattle.lf_density.specs.Bins.{bin_area}
use Rattle.lf_density.proofs.areas.areas_of.Given as goal

abbrev pub invariant-loop-rect : goal.invariant-loop-rect
invariant-loop-rect l = record {
  many : length l.areas.items ≡ l.grid.columns * l.grid.rows;
  each : (column row : ℕ) → column < l.grid.columns → row < l.grid.rows
      → get_or l.areas.items (row * l.grid.columns + column) 0 ≡ bin_area l.grid (take l.rect-index l.boxes) column row;
}
