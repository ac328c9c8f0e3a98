use Rattle.std.proofs.Common.{◌≢◌, ℕ, get_or, arith}
use Rattle.std.proofs.lemmas.List.Elements.{All-nil, All-same}
use Rattle.lf_cells.specs.Cells.{cells_of, working_at}
use Rattle.lf_cells.proofs.TeamIds.{ids_long}
use Rattle.lf_repair_strategy.specs.Targets.{target_at}
use Rattle.lf_repair_team.proofs.Finding.{IsAtTarget, all_changed, changed_at, moved_at}
use Rattle.lf_repair_strategy.proofs.Ids.{id_at, ids_are, no_id, working_read}
use Rattle.lf_repair_team.proofs.Lists.{none_named}
use Rattle.lf_repair_team.proofs.outcome.changed_cells.Goals as goal

pub loop-id-init : goal.loop-id-init
loop-id-init c =
    let Apart = λ (own : ℕ). working_at (cells_of c.args.placement.now.cells c.args.number) own ≢ target_at c.args.targets.now own in
    record {
      changed = none_named (IsAtTarget (cells_of c.args.placement.now.cells c.args.number) c.args.targets.now) c.new-changed.result.items;
      moved = All-same Apart c.new-changed.result.items _ c.new-changed.ensures.items (All-nil Apart);
    }

pub loop-id-preserved : goal.loop-id-preserved
loop-id-preserved c =
    let number = c.args.number in
    let k = c.loop-id.id-index in
    let cells = cells_of c.args.placement.now.cells number in
    let ids = c.cells_of-id-items.result.now in
    let are = ids_are c.args.placement.now.cells c.cells.result.now number ids c.cells.ensures c.cells_of-id-items.ensures in
    let id = id_at number k cells ids are c.loop-id-test.true in
    let now = working_read c.args.placement.now.cells c.cells-in-loop-id.result.now number k (get_or ids k no_id) c.working-now.result c.cells-in-loop-id.ensures id
    c.working-now.ensures in
    record {
      changed = changed_at cells c.args.targets.now number k (get_or ids k no_id) c.working-now.result c.target_place-wanted_place.result c.loop-id.changed.items c.name_changed.new.changed.items
          id now c.target_place-wanted_place.ensures c.loop-id.invariant.changed c.in_ok-name_changed.ensures;
      moved = moved_at cells c.args.targets.now number k (get_or ids k no_id) c.working-now.result c.target_place-wanted_place.result c.loop-id.changed.items c.name_changed.new.changed.items
          id now c.target_place-wanted_place.ensures c.loop-id.invariant.moved c.in_ok-name_changed.ensures;
    }

pub returns-clause-changed : goal.returns-clause-changed
returns-clause-changed c =
    let number = c.args.number in
    let k = c.loop-id.id-index in
    let cells = cells_of c.args.placement.now.cells number in
    let ids = c.cells_of-id-items.result.now in
    let are = ids_are c.args.placement.now.cells c.cells.result.now number ids c.cells.ensures c.cells_of-id-items.ensures in
    all_changed cells c.args.targets.now k c.loop-id.changed.items (omega (arith, c.loop-id-test.false, ids_long number cells ids are)) c.loop-id.invariant.changed
