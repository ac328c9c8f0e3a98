use Rattle.std.proofs.Common.{◌≡◌, ◌≤◌, get_or, length}
use Rattle.std.specs.Prelude.{flat_map}
use Rattle.std.specs.List.{range_with_len}
use Rattle.lf_density.specs.Density.{utilization}
use Rattle.lf_density.proofs.fullest.utilizations.Given as goal

abbrev pub invariant-loop-at : goal.invariant-loop-at
invariant-loop-at l = record {
  is : l.found.items ≡ flat_map (λ k. utilization l.area (get_or l.usable k 0) (get_or l.used k 0)) (range_with_len 0 l.at);
  few : length l.found.items ≤ l.at;
}
