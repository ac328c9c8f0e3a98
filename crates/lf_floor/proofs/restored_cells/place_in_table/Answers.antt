use Rattle.std.proofs.Common.{List, length, ap, arith, ◌∙◌}
use Rattle.lf_cells.specs.Cells.{cells_of}
use Rattle.lf_state_text.specs.declared.saved_rows.SavedCell.{SavedCell}
use Rattle.lf_floor.specs.Saved.{map_two, restored_cell}
use Rattle.lf_floor.proofs.Emptying.{all_placed, next_many, next_placed, none_placed, rows_emptied}
use Rattle.lf_floor.proofs.restored_cells.place_in_table.Goals as goal

pub loop-team-init : goal.loop-team-init
loop-team-init c = none_placed c.args.cells.now c.args.rows.now

pub place_team-requires : goal.place_team-requires
place_team-requires c =
    let n = c.loop-team.team in
    ap (λ (cs : List SavedCell). length cs) (c.deref.ensures.value ∙ c.take_cells-saved.ensures.cells)
    ∙ next_many n c.args.rows.now c.loop-team.rows c.args.cells.now c.loop-team.cells c.loop-team-test.true c.loop-team.auto.rows c.loop-team.invariant c.index-rows-team.result c.requires

pub loop-team-preserved : goal.loop-team-preserved
loop-team-preserved c =
    let n = c.loop-team.team in
    let old = c.args.cells.now in
    let now = c.loop-team.cells in
    next_placed n c.args.rows.now c.loop-team.rows old now c.loop-team-test.true c.loop-team.auto.rows c.loop-team.invariant c.index-rows-team.result
    c.place_team.new.cells c.take_cells-saved.new.row c.take_cells-saved.ensures.row
    (c.place_team.ensures.own
    ∙ ap (λ (cs : List SavedCell). map_two restored_cell (cells_of now n) cs) (c.deref.ensures.value ∙ c.take_cells-saved.ensures.cells))
    c.place_team.ensures.others

pub returns-clause-placed : goal.returns-clause-placed
returns-clause-placed c =
    all_placed c.loop-team.team c.args.rows.now c.loop-team.rows c.args.cells.now c.loop-team.cells (omega (arith, c.loop-team-test.false, c.loop-team.auto.team-end))
    c.loop-team.invariant

pub returns-clause-rows : goal.returns-clause-rows
returns-clause-rows c =
    rows_emptied c.loop-team.team c.args.rows.now c.loop-team.rows c.args.cells.now c.loop-team.cells (omega (arith, c.loop-team-test.false, c.loop-team.auto.team-end))
    c.loop-team.invariant
