use Rattle.std.proofs.Common.{◌≡◌, ◌≤◌, ◌*◌, map, min, sum, length}
use Rattle.std.specs.List.{range_with_len}
use Rattle.lf_cells.specs.Cells.{cells_of, working_at}
use Rattle.lf_repair_strategy.specs.Targets.{target_at}
use Rattle.lf_repair_team.specs.Stats.{count_of_height, displacement, mean_in_rows, rows_at, total_of_height}
use Rattle.lf_repair_team.proofs.means.mean_by_height.Given as goal

-- the sums over the heights so far
abbrev pub invariant-loop-lower : goal.invariant-loop-lower
invariant-loop-lower l = record {
  heights : l.heights ≡ sum (map (λ height. min (count_of_height (rows_at l.placement.frame (cells_of l.placement.cells l.number)) (length (cells_of l.placement.cells l.number)) height) 1)
      (range_with_len 1 l.lower));
  means : l.means ≡ sum (map (λ height. mean_in_rows l.row
      (total_of_height (rows_at l.placement.frame (cells_of l.placement.cells l.number))
      (λ own. displacement (target_at l.targets own) (working_at (cells_of l.placement.cells l.number) own)) (length (cells_of l.placement.cells l.number)) height)
      (count_of_height (rows_at l.placement.frame (cells_of l.placement.cells l.number)) (length (cells_of l.placement.cells l.number)) height)) (range_with_len 1 l.lower));
  few : l.heights ≤ l.lower;
  short : l.means ≤ l.lower * 8589934590000;
}
