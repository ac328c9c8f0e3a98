use Rattle.std.proofs.Common.{◌≤◌, ◌∙◌, ◌++◌, List, [], ap, append-nil, append_assoc, arith, length, sym, take}
use Rattle.std.proofs.lemmas.List.{take_all}
use Rattle.std.specs.Prelude.{slice_get}
use Rattle.std.specs.Option.{option_map_or}
use Rattle.lf_units.specs.declared.geometry.Rect.{Rect}
use Rattle.lf_cells.specs.declared.cell.Cell.{Cell}
use Rattle.lf_cells.specs.Cells.{cells_of}
use Rattle.lf_cells.proofs.TeamIds.{ids_long}
use Rattle.lf_repair_strategy.proofs.Ids.{ids_are}
use Rattle.lf_task_reports.specs.Densities.{cell_boxes, working_box}
use Rattle.lf_task_reports.proofs.DensityLemmas.{flat_map_one_more}
use Rattle.lf_task_reports.proofs.density.push_boxes.Goals as goal

pub loop-own-init : goal.loop-own-init
loop-own-init c = sym (append-nil c.args.boxes.now.items)

pub loop-own-preserved : goal.loop-own-preserved
loop-own-preserved c =
    let f = c.args.placement.now.frame in
    let cells = cells_of c.args.placement.now.cells c.args.number in
    let own = c.loop-own.own in
    let next : List Rect = option_map_or (working_box f) (slice_get cells own) [] in
    c.in_ok-push_box.ensures ∙ ap (λ (l : List Rect). l ++ next) c.loop-own.invariant
    ∙ append_assoc c.args.boxes.now.items (cell_boxes f (take own cells)) next
    ∙ ap (λ (l : List Rect). c.args.boxes.now.items ++ l) (sym (flat_map_one_more (working_box f) cells own))

pub returns : goal.returns
returns c =
    let number = c.args.number in
    let cells = cells_of c.args.placement.now.cells number in
    let ids = c.cells_of-count.result.now in
    let long = ids_long number cells ids (ids_are c.args.placement.now.cells c.cells.result.now number ids c.cells.ensures c.cells_of-count.ensures) in
    let all : length cells ≤ c.loop-own.own = omega (arith, c.loop-own-test.false, long) in
    c.loop-own.invariant ∙ ap (λ (cs : List Cell). c.args.boxes.now.items ++ cell_boxes c.args.placement.now.frame cs) (take_all c.loop-own.own cells all)
