use Rattle.std.proofs.Common.{◌≡◌}
use Rattle.lf_cells.specs.Cells.{cells_of}
use Rattle.lf_repair_team.specs.CellEdits.{AreStatsOfFirst}
use Rattle.lf_repair_team.proofs.StatsLemmas.{IsShortTo}
use Rattle.lf_repair_team.proofs.stats.count_cells.Given as goal

abbrev pub invariant-loop-id : goal.invariant-loop-id
invariant-loop-id l = record {
  changed : l.reported.changed ≡ l.fn.found.changed;
  left : l.reported.unrepaired ≡ l.fn.found.left;
  tally : AreStatsOfFirst l.targets l.marks (cells_of l.placement.cells l.number) l.id-index l.reported;
  short : IsShortTo l.id-index l.reported;
}
