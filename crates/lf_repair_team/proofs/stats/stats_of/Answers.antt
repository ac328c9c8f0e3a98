use Rattle.std.proofs.Common.{◌∙◌, List, Bool, Option, ap, length, subst}
use Rattle.lf_floorplan.specs.declared.frame.Frame.{Frame}
use Rattle.lf_floorplan.specs.declared.place.Place.{Place}
use Rattle.lf_cells.specs.declared.cell.Cell.{Cell}
use Rattle.lf_cells.specs.Cells.{cells_of, working_at}
use Rattle.lf_repair_strategy.specs.Targets.{target_at}
use Rattle.lf_repair_team.specs.CellEdits.{AreStatsOfFirst}
use Rattle.lf_repair_team.specs.Stats.{means_of}
use Rattle.lf_repair_team.proofs.StatsLemmas.{tally_with_means}
use Rattle.lf_repair_team.proofs.stats.stats_of.Goals as goal

pub means_of-stats-requires : goal.means_of-stats-requires
means_of-stats-requires g c = c.count_cells-stats.ensures.tally.total_displacement

pub returns-clause-tally : goal.returns-clause-tally
returns-clause-tally g c = λ s at.
    let reported = record c.count_cells-stats.result { means = c.means_of-stats.result } in
    let marks = c.args.input.now.legal.items in
    let cells = cells_of c.placement-placement.result.now.cells c.args.number in
    subst (λ (cs : List Cell). AreStatsOfFirst c.args.input.now.pass.targets.items marks cs (length cs) reported) (c.placement-placement.ensures.cells c.args.number s at)
    (subst (λ (targets : List (Option Place)). AreStatsOfFirst targets marks cells (length cells) reported) c.as_slice-targets.ensures.value
    (subst (λ (ms : List Bool). AreStatsOfFirst c.as_slice-targets.result.now ms cells (length cells) reported) c.as_slice.ensures.value
    (tally_with_means c.as_slice-targets.result.now c.as_slice.result.now cells (length cells) c.count_cells-stats.result c.means_of-stats.result c.count_cells-stats.ensures.tally)))

pub returns-clause-means : goal.returns-clause-means
returns-clause-means g c = λ s at.
    c.means_of-stats.ensures ∙ ap (λ (f : Frame). means_of f (cells_of c.placement-placement.result.now.cells c.args.number) (target_at c.as_slice-targets.result.now)
    (working_at (cells_of c.placement-placement.result.now.cells c.args.number))) c.placement-placement.ensures.frame
    ∙ ap (λ (cs : List Cell). means_of c.args.floor.now.frame cs (target_at c.as_slice-targets.result.now) (working_at cs)) (c.placement-placement.ensures.cells c.args.number s at)
    ∙ ap (λ (ps : List (Option Place)). means_of c.args.floor.now.frame s.cells (target_at ps) (working_at s.cells)) c.as_slice-targets.ensures.value
