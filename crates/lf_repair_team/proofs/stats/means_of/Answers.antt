use Rattle.std.proofs.Common.{◌≡◌, ◌∙◌, ℕ, ap, ap₂, length, sum}
use Rattle.lf_floorplan.specs.declared.frame.Frame.{Frame}
use Rattle.lf_cells.proofs.TeamIds.{ids_long}
use Rattle.lf_cells.specs.Cells.{cells_of, working_at}
use Rattle.lf_repair_strategy.proofs.Ids.{ids_are}
use Rattle.lf_repair_strategy.specs.Targets.{target_at}
use Rattle.lf_repair_strategy.specs.declared.stats.DisplacementMeans.{DisplacementMeans}
use Rattle.lf_repair_team.specs.Stats.{all_displacements, mean_in_rows, row_height}
use Rattle.lf_repair_team.proofs.stats.means_of.Goals as goal

abbrev made : ℕ → ℕ → DisplacementMeans
made all by_height = record { all = all; by_height = by_height }

pub returns : goal.returns
returns c =
    let number = c.args.number in
    let cells = cells_of c.args.placement.now.cells number in
    let ids = c.cells_of.result.now in
    let long = ids_long number cells ids (ids_are c.args.placement.now.cells c.cells.result.now number ids c.cells.ensures c.cells_of.ensures) in
    let total = sum (all_displacements (target_at c.args.targets.now) (working_at cells) (length cells)) in
    let row : c.row_height.result ≡ row_height c.args.placement.now.frame = c.row_height.ensures ∙ ap (λ (f : Frame). row_height f) c.frame.ensures in
    ap₂ made
    (c.mean_in_rows.ensures.mean ∙ ap (λ (n : ℕ). mean_in_rows n c.args.total (length ids)) row
    ∙ ap (λ (n : ℕ). mean_in_rows (row_height c.args.placement.now.frame) n (length ids)) c.requires
    ∙ ap (λ (n : ℕ). mean_in_rows (row_height c.args.placement.now.frame) total n) long)
    c.mean_by_height.ensures
