use Rattle.std.proofs.Common.{◌≡◌, ◌≤◌, ◌*◌}
use Rattle.lf_cells.specs.Cells.{cells_of, working_at}
use Rattle.lf_repair_strategy.specs.Targets.{target_at}
use Rattle.lf_repair_team.specs.Stats.{count_of_height, displacement, rows_at, total_of_height}
use Rattle.lf_repair_team.proofs.means.totals_of_height.Given as goal

-- the totals over the cells so far
abbrev pub invariant-loop-own : goal.invariant-loop-own
invariant-loop-own l = record {
  count : l.height.count ≡ count_of_height (rows_at l.placement.frame (cells_of l.placement.cells l.number)) l.own l.rows;
  total : l.height.total ≡ total_of_height (rows_at l.placement.frame (cells_of l.placement.cells l.number))
      (λ own. displacement (target_at l.targets own) (working_at (cells_of l.placement.cells l.number) own)) l.own l.rows;
  few : l.height.count ≤ l.own;
  short : l.height.total ≤ l.height.count * 8589934590;
}
