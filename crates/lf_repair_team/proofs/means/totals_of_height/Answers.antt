use Rattle.std.proofs.Common.{◌≡◌, ◌∙◌, ◌==◌, Bool, Option, ℕ, ap, arith, cond, length, zero-add}
use Rattle.lf_floorplan.specs.declared.place.Place.{Place}
use Rattle.lf_cells.proofs.TeamIds.{ids_long}
use Rattle.lf_cells.specs.Cells.{cells_of, working_at}
use Rattle.lf_repair_strategy.proofs.Ids.{ids_are}
use Rattle.lf_repair_strategy.specs.Targets.{target_at}
use Rattle.lf_repair_team.specs.Stats.{count_of_height, displacement, rows_at, total_of_height}
use Rattle.lf_repair_team.proofs.MeanLemmas.{one_at_most, sum_more}
use Rattle.lf_repair_team.proofs.means.totals_of_height.Goals as goal

pub loop-own-preserved : goal.loop-own-preserved
loop-own-preserved c =
    let own = c.loop-own.own in
    let cells = cells_of c.args.placement.now.cells c.args.number in
    let rows = rows_at c.args.placement.now.frame cells in
    let ways : ℕ → ℕ = λ k. displacement (target_at c.args.targets.now k) (working_at cells k) in
    let is_counted = c.is_so_high-is_counted.result in
    let way = c.displacement-way.result in
    let most = one_at_most is_counted in
    record {
      count = sum_more (λ (k : ℕ). cond (rows k == c.args.rows) 1 0) 0 own own (cond is_counted 1 0) c.with_cell-height.result.count c.loop-own.height.count (zero-add own)
          c.with_cell-height.ensures.count (ap (λ (b : Bool). cond b 1 0) c.is_so_high-is_counted.ensures) c.loop-own.invariant.count;
      total = sum_more (λ (k : ℕ). cond (rows k == c.args.rows) (ways k) 0) 0 own own (cond is_counted way 0) c.with_cell-height.result.total c.loop-own.height.total (zero-add own)
          c.with_cell-height.ensures.total
          (ap (λ (b : Bool). cond b way 0) c.is_so_high-is_counted.ensures ∙ ap (λ (n : ℕ). cond (rows own == c.args.rows) n 0)
          (c.displacement-way.ensures.way ∙ ap (λ (p : Option Place). displacement p c.place_at.result) c.target_place.ensures
          ∙ ap (λ (p : Option Place). displacement (target_at c.args.targets.now own) p) c.place_at.ensures)) c.loop-own.invariant.total;
      few = omega (arith, c.loop-own.invariant.few, c.with_cell-height.ensures.count, most);
      short = c.with_cell-height.ensures.short;
    }

pub with_cell-height-requires-clause-few : goal.with_cell-height-requires-clause-few
with_cell-height-requires-clause-few c =
    let number = c.args.number in
    let cells = cells_of c.args.placement.now.cells number in
    let ids = c.cells_of-count.result.now in
    let long = ids_long number cells ids (ids_are c.args.placement.now.cells c.cells.result.now number ids c.cells.ensures c.cells_of-count.ensures) in
    let few = c.cells_are_sized.ensures.few number in
    omega (arith, c.loop-own.invariant.few, c.loop-own-test.true, long, few)

pub returns-clause-count : goal.returns-clause-count
returns-clause-count c =
    let number = c.args.number in
    let cells = cells_of c.args.placement.now.cells number in
    let ids = c.cells_of-count.result.now in
    let long = ids_long number cells ids (ids_are c.args.placement.now.cells c.cells.result.now number ids c.cells.ensures c.cells_of-count.ensures) in
    let all : c.loop-own.own ≡ length cells = omega (arith, c.loop-own-test.false, c.loop-own.auto.own-end, long) in
    c.loop-own.invariant.count ∙ ap (λ (n : ℕ). count_of_height (rows_at c.args.placement.now.frame cells) n c.args.rows) all

pub returns-clause-total : goal.returns-clause-total
returns-clause-total c =
    let number = c.args.number in
    let cells = cells_of c.args.placement.now.cells number in
    let ids = c.cells_of-count.result.now in
    let long = ids_long number cells ids (ids_are c.args.placement.now.cells c.cells.result.now number ids c.cells.ensures c.cells_of-count.ensures) in
    let all : c.loop-own.own ≡ length cells = omega (arith, c.loop-own-test.false, c.loop-own.auto.own-end, long) in
    c.loop-own.invariant.total
    ∙ ap (λ (n : ℕ). total_of_height (rows_at c.args.placement.now.frame cells) (λ k. displacement (target_at c.args.targets.now k) (working_at cells k)) n c.args.rows) all
