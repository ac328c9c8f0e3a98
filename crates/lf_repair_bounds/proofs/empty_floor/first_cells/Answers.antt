use Rattle.std.proofs.Common.{◌≡◌, ◌∙◌, Some, ap, arith, sym}
use Rattle.std.specs.Prelude.{option_map, slice_get}
use Rattle.std.proofs.lemmas.Option.{get_or_from_slice_get, slice_get_within}
use Rattle.lf_floorplan.specs.LoadedCells.{borrowed_cell}
use Rattle.lf_repair_bounds.proofs.Copying.{there}
use Rattle.lf_repair_bounds.proofs.Keeping.{design_kept, next_is_named, none_kept, one_more}
use Rattle.lf_repair_bounds.proofs.empty_floor.first_cells.Goals as goal

pub unwrap-cell-requires : goal.unwrap-cell-requires
unwrap-cell-requires c =
    there borrowed_cell c.args.loaded.now.cells c.loop-at.at c.get.result c.get.ensures (omega (arith, c.loop-at-test.true, c.len-at-end.ensures))

pub keep_first-requires : goal.keep_first-requires
keep_first-requires c =
    let cells = c.args.loaded.now.cells in
    let cell = borrowed_cell c.unwrap-cell.result in
    let is : slice_get cells c.loop-at.at ≡ Some cell = sym c.get.ensures ∙ ap (option_map borrowed_cell) c.unwrap-cell.ensures in
    next_is_named c.args.loaded.now.frame cells c.loop-at.at c.loop-at.kept cell c.loop-at.invariant is

pub loop-at-init : goal.loop-at-init
loop-at-init c = rw c.new-kept.ensures (none_kept c.args.loaded.now.frame c.args.loaded.now.cells c.args.loaded.now.names_differ)

pub loop-at-preserved : goal.loop-at-preserved
loop-at-preserved c =
    let loaded = c.args.loaded.now in
    let cells = loaded.cells in
    let cell = borrowed_cell c.unwrap-cell.result in
    let is : slice_get cells c.loop-at.at ≡ Some cell = sym c.get.ensures ∙ ap (option_map borrowed_cell) c.unwrap-cell.ensures in
    one_more loaded.frame cells c.loop-at.at c.loop-at.kept _ cell c.loop-at.invariant is
    (rw (get_or_from_slice_get cells c.loop-at.at cell cell is) at (loaded.cells_known c.loop-at.at cell (slice_get_within cells c.loop-at.at cell is)))
    c.in_ok-keep_first.ensures

pub returns-clause-design : goal.returns-clause-design
returns-clause-design c =
    design_kept c.args.loaded.now.frame c.args.loaded.now.cells c.loop-at.at c.loop-at.kept c.loop-at.invariant
    (omega (arith, c.loop-at-test.false, c.len-at-end.ensures)) c.args.loaded.now.few_cells

pub returns-clause-unplaced : goal.returns-clause-unplaced
returns-clause-unplaced c = c.loop-at.invariant.unplaced
