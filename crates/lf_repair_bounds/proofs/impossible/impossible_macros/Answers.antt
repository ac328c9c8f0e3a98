use Rattle.std.proofs.Common.{◌≡◌, ◌∙◌, Some, ap, arith, sym}
use Rattle.std.specs.Prelude.{option_map, slice_get}
use Rattle.std.proofs.lemmas.Option.{get_or_from_slice_get, slice_get_within}
use Rattle.lf_floorplan.specs.LoadedCells.{borrowed_cell}
use Rattle.lf_repair_bounds.proofs.Copying.{there}
use Rattle.lf_repair_bounds.proofs.Searching.{all_searched, has_own_cell, next_searched, none_searched}
use Rattle.lf_repair_bounds.proofs.impossible.impossible_macros.Goals as goal

pub invariant_of-floor : goal.invariant_of-floor
invariant_of-floor c = record {
  copies = (c.in_ok-hard.ensures {u = tt}).copies;
  none = (c.in_ok-hard.ensures {u = tt}).none;
  of_frame = sym (c.in_ok-bare.ensures {u = tt});
}

pub unwrap-cell-requires : goal.unwrap-cell-requires
unwrap-cell-requires c =
    there borrowed_cell c.args.loaded.now.cells c.loop-at.at c.get.result c.get.ensures (omega (arith, c.loop-at-test.true, c.len-at-end.ensures))

pub note_cell-requires : goal.note_cell-requires
note_cell-requires c =
    let loaded = c.args.loaded.now in
    let cell = borrowed_cell c.unwrap-cell.result in
    let is : slice_get loaded.cells c.loop-at.at ≡ Some cell = sym c.get.ensures ∙ ap (option_map borrowed_cell) c.unwrap-cell.ensures in
    record {
      known = rw (get_or_from_slice_get loaded.cells c.loop-at.at cell cell is) at (loaded.cells_known c.loop-at.at cell (slice_get_within loaded.cells c.loop-at.at cell is));
      index = c.in_ok-index.ensures {u = tt};
      of_cell = has_own_cell loaded.cells c.loop-at.at cell is;
    }

pub loop-at-init : goal.loop-at-init
loop-at-init c =
    none_searched c.args.loaded.now.frame c.args.loaded.now.cells c.new-checked.result.items c.new-list.result.items c.new-checked.ensures.items c.new-list.ensures.items

pub loop-at-preserved : goal.loop-at-preserved
loop-at-preserved c =
    let loaded = c.args.loaded.now in
    let cell = borrowed_cell c.unwrap-cell.result in
    let is : slice_get loaded.cells c.loop-at.at ≡ Some cell = sym c.get.ensures ∙ ap (option_map borrowed_cell) c.unwrap-cell.ensures in
    next_searched loaded.frame loaded.cells c.loop-at.at cell c.loop-at.checked.items c.note_cell.new.checked.items c.loop-at.list.items c.note_cell.new.list.items is
    c.in_ok-note_cell.ensures c.loop-at.invariant

pub returns : goal.returns
returns c =
    all_searched c.args.loaded.now.frame c.args.loaded.now.cells c.loop-at.at c.loop-at.checked.items c.loop-at.list.items (omega (arith, c.loop-at-test.false, c.len-at-end.ensures)) c.loop-at.invariant
