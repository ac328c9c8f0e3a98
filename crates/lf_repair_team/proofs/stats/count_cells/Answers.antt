use Rattle.std.proofs.Common.{◌≡◌, ◌∙◌, ℕ, length, get_or, refl, subst, arith}
use Rattle.std.specs.Prelude.{Some, slice_get, true}
use Rattle.lf_cells.specs.Cells.{cells_of, working_at}
use Rattle.lf_cells.proofs.TeamIds.{ids_long}
use Rattle.lf_repair_strategy.specs.Targets.{target_at}
use Rattle.lf_repair_team.specs.CellEdits.{AreStatsOfFirst}
use Rattle.lf_repair_strategy.proofs.Ids.{id_at, ids_are, no_id, working_read}
use Rattle.lf_repair_team.proofs.StatsLemmas.{nothing_reported, short_more, reported_at}
use Rattle.lf_repair_team.proofs.stats.count_cells.Goals as goal

pub loop-id-init : goal.loop-id-init
loop-id-init c = record {
  changed = refl;
  left = refl;
  tally = nothing_reported (target_at c.args.targets.now) (working_at (cells_of c.args.placement.now.cells c.args.number)) (λ own. slice_get c.args.marks.now own ≡ Some true)
      _ refl refl refl refl refl refl refl refl;
  short = record { cells = omega arith; kept = omega arith; displaced_legal = omega arith; moved = omega arith; placed = omega arith; turned = omega arith; total_displacement = omega arith };
}

pub loop-id-preserved : goal.loop-id-preserved
loop-id-preserved c =
    let number = c.args.number in
    let k = c.loop-id.id-index in
    let cells = cells_of c.args.placement.now.cells number in
    let ids = c.cells_of-id-items.result.now in
    let are = ids_are c.args.placement.now.cells c.cells.result.now number ids c.cells.ensures c.cells_of-id-items.ensures in
    let id = id_at number k cells ids are c.loop-id-test.true in
    let now = working_read c.args.placement.now.cells c.cells-in-loop-id.result.now number k (get_or ids k no_id) c.working-now.result c.cells-in-loop-id.ensures id
    c.working-now.ensures in
    record {
      changed = c.count_cell.ensures.changed ∙ c.loop-id.invariant.changed;
      left = c.count_cell.ensures.left ∙ c.loop-id.invariant.left;
      tally = reported_at c.args.targets.now c.args.marks.now cells number k (get_or ids k no_id) c.target_place-wanted_place.result c.working-now.result c.is_locked-was_legal.result
          c.loop-id.reported c.count_cell.new.reported id now c.target_place-wanted_place.ensures c.is_locked-was_legal.ensures
          (omega (arith, c.loop-id-test.true, ids_long number cells ids are, c.cells_are_sized.ensures.few number)) c.loop-id.invariant.short c.loop-id.invariant.tally
          c.count_cell.ensures.reported;
      short = short_more c.target_place-wanted_place.result c.working-now.result (c.is_locked-was_legal.result ≡ true) k c.loop-id.reported c.count_cell.new.reported c.loop-id.invariant.short
          c.count_cell.ensures.reported;
    }

pub returns-clause-tally : goal.returns-clause-tally
returns-clause-tally c =
    let number = c.args.number in
    let cells = cells_of c.args.placement.now.cells number in
    let ids = c.cells_of-id-items.result.now in
    let are = ids_are c.args.placement.now.cells c.cells.result.now number ids c.cells.ensures c.cells_of-id-items.ensures in
    let all : c.loop-id.id-index ≡ length cells = omega (arith, c.loop-id-test.false, c.loop-id.auto.id-index-end, ids_long number cells ids are) in
    subst (λ (n : ℕ). AreStatsOfFirst c.args.targets.now c.args.marks.now cells n c.loop-id.reported) all c.loop-id.invariant.tally
