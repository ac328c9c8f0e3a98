use Rattle.std.proofs.Common.{◌≡◌, ◌∙◌, ◌+◌, ◌<◌, arith, get_or, length, map, sym}
use Rattle.std.proofs.lemmas.List.{get_or-map, length-map}
use Rattle.lf_cells.specs.declared.cell.CellId.{CellId}
use Rattle.lf_cells.specs.Cells.{cells_of}
use Rattle.lf_occupancy.specs.Building.{PrecedesCell, id_at, strips_to_mark}
use Rattle.lf_occupancy.specs.Strips.{widened_strips}
use Rattle.lf_occupancy.proofs.Building.{filled_same, one_filled, one_passed}
use Rattle.lf_occupancy.proofs.Parting.{IsPart, IsPassed, none_passed, part_cell, part_fresh, part_passed, part_put}
use Rattle.lf_occupancy.proofs.Reaching.{mark_lists_rise}
use Rattle.lf_occupancy.proofs.build.fill_in.Goals as goal

pub loop-waiting-init : goal.loop-waiting-init
loop-waiting-init c =
    let team = c.args.team in
    let from = c.args.from in
    let os = map (id_at c.part_of-ids.result.now) c.deref-waiting-items.result.now in
    filled_same c.args.placed.now.frame.now c.args.placed.now.cells.now (strips_to_mark c.args.placed.now) (PrecedesCell team from) (IsPassed team from os 0)
    c.args.mark_lists.now.items (λ id cell there. none_passed team from os id) c.requires

pub mark_cell-requires : goal.mark_cell-requires
mark_cell-requires c = record {
  many = c.loop-waiting.invariant.marked.many;
  rising = mark_lists_rise (strips_to_mark c.args.placed.now) c.loop-waiting.invariant.boxes c.loop-waiting.mark_lists.items
      c.loop-waiting.invariant.marked;
}

pub loop-waiting-preserved : goal.loop-waiting-preserved
loop-waiting-preserved c =
    let f = c.args.placed.now.frame.now in
    let cells = c.args.placed.now.cells.now in
    let team = c.args.team in
    let from = c.args.from in
    let ids = c.part_of-ids.result.now in
    let order = c.deref-waiting-items.result.now in
    let os = map (id_at ids) order in
    let xs = widened_strips f.pitch.x c.args.placed.now.index.now.strips in
    let i = c.loop-waiting.waiting-index in
    let are : IsPart 65536 from team (cells_of cells team) os =
    part_put 65536 from team (cells_of cells team) c.cells_of.result.now ids c.in_ok-order.order.items order c.cells_of.ensures c.part_of-ids.ensures.is
    c.in_ok-order.ensures c.deref-waiting-items.ensures.value in
    let many = length-map order (id_at ids) in
    let within : i < length os = omega (arith, many) in
    let id : CellId = c.id_waiting.result in
    let is : id ≡ get_or os i id = c.id_waiting.ensures ∙ sym (get_or-map (id_at ids) order i _ id (omega arith)) in
    let cell = part_cell 65536 from team cells os id are (i, within, sym is) in
    one_filled f cells xs (IsPassed team from os i) (IsPassed team from os (i + 1)) id cell.0 c.loop-waiting.mark_lists.items c.mark_cell.new.mark_lists.items cell.1
    (part_fresh 65536 from team (cells_of cells team) os i id are within is) (one_passed (PrecedesCell team from) os i id within is) c.loop-waiting.invariant
    (c.in_ok-mark_cell.ensures c.loop-waiting.invariant.boxes)

pub returns : goal.returns
returns c =
    let f = c.args.placed.now.frame.now in
    let cells = c.args.placed.now.cells.now in
    let team = c.args.team in
    let from = c.args.from in
    let ids = c.part_of-ids.result.now in
    let order = c.deref-waiting-items.result.now in
    let os = map (id_at ids) order in
    let i = c.loop-waiting.waiting-index in
    let are : IsPart 65536 from team (cells_of cells team) os =
    part_put 65536 from team (cells_of cells team) c.cells_of.result.now ids c.in_ok-order.order.items order c.cells_of.ensures c.part_of-ids.ensures.is
    c.in_ok-order.ensures c.deref-waiting-items.ensures.value in
    let many = length-map order (id_at ids) in
    filled_same f cells (widened_strips f.pitch.x c.args.placed.now.index.now.strips) (IsPassed team from os i) (PrecedesCell team (from + 65536)) c.loop-waiting.mark_lists.items
    (part_passed 65536 from team cells os i are (omega (arith, many))) c.loop-waiting.invariant
