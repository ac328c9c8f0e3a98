use Rattle.std.proofs.Common.{◌≡◌, ◌∙◌, ◌+◌, ℕ, ap, arith, length, map, min, refl, sum}
use Rattle.std.specs.List.{range_with_len}
use Rattle.lf_floorplan.specs.declared.frame.Frame.{Frame}
use Rattle.lf_cells.specs.Cells.{cells_of, working_at}
use Rattle.lf_repair_strategy.specs.Targets.{target_at}
use Rattle.lf_repair_team.specs.Stats.{count_of_height, displacement, mean_by_height, mean_in_rows, quotient, row_height, rows_at, total_of_height}
use Rattle.lf_repair_team.proofs.MeanLemmas.{sum_more}
use Rattle.lf_repair_team.proofs.means.mean_by_height.Goals as goal

pub loop-lower-preserved : goal.loop-lower-preserved
loop-lower-preserved c =
    let lower = c.loop-lower.lower in
    let cells = cells_of c.args.placement.now.cells c.args.number in
    let rows = rows_at c.args.placement.now.frame cells in
    let ways : ℕ → ℕ = λ k. displacement (target_at c.args.targets.now k) (working_at cells k) in
    let all = length cells in
    let row = c.row_height-row.result in
    let height = c.totals_of_height-height in
    let at : 1 + lower ≡ lower + 1 = omega arith in
    let one = c.min-heights.ensures in
    let mean = c.mean_in_rows-means.ensures.short height.ensures.short in
    record {
      heights = sum_more (λ (h : ℕ). min (count_of_height rows all h) 1) 1 lower (lower + 1) c.min-heights.result (c.loop-lower.heights + c.min-heights.result) c.loop-lower.heights at refl
          (c.min-heights.ensures ∙ ap (λ (n : ℕ). min n 1) height.ensures.count) c.loop-lower.invariant.heights;
      means = sum_more (λ (h : ℕ). mean_in_rows row (total_of_height rows ways all h) (count_of_height rows all h)) 1 lower (lower + 1) c.mean_in_rows-means.result
          (c.loop-lower.means + c.mean_in_rows-means.result) c.loop-lower.means at refl
          (c.mean_in_rows-means.ensures.mean ∙ ap (λ (n : ℕ). mean_in_rows row n height.result.count) height.ensures.total
          ∙ ap (λ (n : ℕ). mean_in_rows row (total_of_height rows ways all (lower + 1)) n) height.ensures.count) c.loop-lower.invariant.means;
      few = omega (arith, c.loop-lower.invariant.few, one);
      short = omega (arith, c.loop-lower.invariant.short, mean);
    }

pub returns : goal.returns
returns c =
    let cells = cells_of c.args.placement.now.cells c.args.number in
    let rows = rows_at c.args.placement.now.frame cells in
    let ways : ℕ → ℕ = λ k. displacement (target_at c.args.targets.now k) (working_at cells k) in
    let all = length cells in
    let row = c.row_height-row.result in
    let end : c.loop-lower.lower ≡ 8 = omega (arith, c.loop-lower-test.false, c.loop-lower.auto.lower-end) in
    let means : ℕ → ℕ = λ n. sum (map (λ (h : ℕ). mean_in_rows row (total_of_height rows ways all h) (count_of_height rows all h)) (range_with_len 1 n)) in
    let heights : ℕ → ℕ = λ n. sum (map (λ (h : ℕ). min (count_of_height rows all h) 1) (range_with_len 1 n)) in
    c.quotient.ensures ∙ ap (λ (n : ℕ). quotient n c.loop-lower.heights) c.loop-lower.invariant.means
    ∙ ap (λ (n : ℕ). quotient (means c.loop-lower.lower) n) c.loop-lower.invariant.heights ∙ ap (λ (n : ℕ). quotient (means n) (heights n)) end
    ∙ ap (λ (n : ℕ). mean_by_height n rows ways all) (c.row_height-row.ensures ∙ ap (λ (f : Frame). row_height f) c.frame.ensures)
