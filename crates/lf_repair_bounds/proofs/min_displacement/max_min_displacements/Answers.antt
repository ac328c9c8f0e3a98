use Rattle.std.proofs.Common.{◌≡◌, ◌∙◌, ℕ, ◌+◌, List, Some, ap, arith, subst, sym}
use Rattle.std.specs.Prelude.{option_map, slice_get}
use Rattle.std.proofs.lemmas.List.{take_all}
use Rattle.std.proofs.lemmas.Option.{get_or_from_slice_get, slice_get_within}
use Rattle.lf_floorplan.specs.declared.loaded.LoadedCell.{LoadedCell}
use Rattle.lf_floorplan.specs.LoadedCells.{borrowed_cell}
use Rattle.lf_repair_bounds.specs.MinDisplacements.{AreMaxMinDisplacements}
use Rattle.lf_repair_bounds.proofs.Copying.{there}
use Rattle.lf_repair_bounds.proofs.Ways.{first_zeros, one_raised, take_more}
use Rattle.lf_repair_bounds.proofs.min_displacement.max_min_displacements.Goals as goal

pub unwrap-cell-requires : goal.unwrap-cell-requires
unwrap-cell-requires c =
    there borrowed_cell c.args.loaded.now.cells c.loop-at.at c.get.result c.get.ensures (omega (arith, c.loop-at-test.true, c.len-at-end.ensures))

pub invariant_of-lone : goal.invariant_of-lone
invariant_of-lone c =
    let loaded = c.args.loaded.now in
    let cell = borrowed_cell c.unwrap-cell.result in
    let is : slice_get loaded.cells c.loop-at.at ≡ Some cell = sym c.get.ensures ∙ ap (option_map borrowed_cell) c.unwrap-cell.ensures in
    record {
      of_frame = sym (c.in_ok-bare.ensures {u = tt});
      known = rw (get_or_from_slice_get loaded.cells c.loop-at.at cell cell is) at (loaded.cells_known c.loop-at.at cell (slice_get_within loaded.cells c.loop-at.at cell is));
    }

pub loop-at-init : goal.loop-at-init
loop-at-init c =
    first_zeros c.args.loaded.now.frame _ _ (c.in_ok-largest.ensures {u = tt}) (ap (λ (n : ℕ). n + 1) c.len.ensures)

pub loop-at-preserved : goal.loop-at-preserved
loop-at-preserved c =
    let f = c.args.loaded.now.frame in
    let cells = c.args.loaded.now.cells in
    let at = c.loop-at.at in
    let cell = borrowed_cell c.unwrap-cell.result in
    let is : slice_get cells at ≡ Some cell = sym c.get.ensures ∙ ap (option_map borrowed_cell) c.unwrap-cell.ensures in
    let raised = c.raise.ensures in (
      raised.many ∙ c.loop-at.invariant.0,
      subst (λ (seen : List LoadedCell). AreMaxMinDisplacements f seen c.raise.new.largest.items) (sym (take_more cells at cell is))
          (one_raised f _ cell c.in_ok-way.way _ _ (c.in_ok-way.ensures {u = tt}) raised c.loop-at.invariant.1),
    )

pub returns-clause-many : goal.returns-clause-many
returns-clause-many c = c.loop-at.invariant.0

pub returns-clause-each : goal.returns-clause-each
returns-clause-each c =
    let cells = c.args.loaded.now.cells in
    subst (λ (seen : List LoadedCell). AreMaxMinDisplacements c.args.loaded.now.frame seen c.loop-at.largest.items)
    (take_all c.loop-at.at cells (omega (arith, c.loop-at-test.false, c.len-at-end.ensures))) c.loop-at.invariant.1
