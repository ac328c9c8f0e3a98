use Rattle.std.proofs.Common.{◌≡◌, ◌∙◌, true, false, get_or, sym, refl, arith}
use Rattle.lf_cells.specs.Cells.{cells_of}
use Rattle.lf_cells.proofs.TeamIds.{ids_long}
use Rattle.lf_repair_strategy.proofs.Ids.{id_at, ids_are, no_id, working_read}
use Rattle.lf_improve_team.proofs.Improving.{all_committed, committed_read, each_committed, one_more_committed}
use Rattle.lf_improve_team.proofs.team.is_committed.Goals as goal

false_true : false ≡ true → ⊥
false_true e = cc

pub loop-id-preserved : goal.loop-id-preserved
loop-id-preserved c =
    let number = c.args.number in
    let k = c.loop-id.id-index in
    let table = c.args.placement.now.cells in
    let cells = cells_of table number in
    let ids = c.cells_of-id-items.result.now in
    let are = ids_are table c.cells.result.now number ids c.cells.ensures c.cells_of-id-items.ensures in
    let id = id_at number k cells ids are c.loop-id-test.true in
    let there = committed_read table c.cells-in-loop-id.result.now number k (get_or ids k no_id) c.committed.result c.cells-in-loop-id.ensures id c.committed.ensures in
    let now = working_read table c.cells-in-loop-id-2.result.now number k (get_or ids k no_id) c.working.result c.cells-in-loop-id-2.ensures id c.working.ensures in
    one_more_committed cells k (sym there ∙ c.same_place.ensures.0 c.if-not-same_place.false ∙ now) c.loop-id.invariant

pub returns-then-not-same_place : goal.returns-then-not-same_place
returns-then-not-same_place c =
    let number = c.args.number in
    let k = c.loop-id.id-index in
    let table = c.args.placement.now.cells in
    let cells = cells_of table number in
    let ids = c.cells_of-id-items.result.now in
    let are = ids_are table c.cells.result.now number ids c.cells.ensures c.cells_of-id-items.ensures in
    let id = id_at number k cells ids are c.loop-id-test.true in
    let there = committed_read table c.cells-in-loop-id.result.now number k (get_or ids k no_id) c.committed.result c.cells-in-loop-id.ensures id c.committed.ensures in
    let now = working_read table c.cells-in-loop-id-2.result.now number k (get_or ids k no_id) c.working.result c.cells-in-loop-id-2.ensures id c.working.ensures in (
      λ e. absurd (false_true e),
      λ same. absurd (false_true (sym c.if-not-same_place.true ∙ c.same_place.ensures.1 (there ∙ each_committed cells same k ∙ sym now))),
    )

pub returns : goal.returns
returns c =
    let number = c.args.number in
    let table = c.args.placement.now.cells in
    let cells = cells_of table number in
    let ids = c.cells_of-id-items.result.now in
    let are = ids_are table c.cells.result.now number ids c.cells.ensures c.cells_of-id-items.ensures in (
      λ e. all_committed cells (λ own within. c.loop-id.invariant own (omega (arith, within, c.loop-id-test.false, ids_long number cells ids are))),
      λ same. refl,
    )
