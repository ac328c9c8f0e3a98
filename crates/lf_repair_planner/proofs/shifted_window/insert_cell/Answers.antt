use Rattle.std.proofs.Common.{◌+◌, ◌≤◌, w64, sym, ap, ◌∙◌, arith, subst, rules, SFits}
use Rattle.std.proofs.lemmas.Int.{ints}
use Rattle.std.specs.List.{between, insert}
use Rattle.lf_repair_planner.specs.Packing.{total_site_displacement, total_width}
use Rattle.lf_repair_planner.specs.Windows.{IsWindow, MovesWithin}
use Rattle.lf_repair_planner.proofs.Grown.{grown, kept_grown, packed_grown, room_grown, same_moved_within, way_grown}
use Rattle.lf_repair_planner.proofs.shifted_window.insert_cell.Goals as goal

pub move_list-requires-clause-fits : goal.move_list-requires-clause-fits
move_list-requires-clause-fits c =
    let xs = c.args.cells.now.items in
    let y = c.args.cell in
    let w = c.window_at-window.result in
    let e = c.window_at-window.ensures in
    let is = subst (λ zs. IsWindow c.args.room zs y.width w) c.as_slice.ensures.value e.window in
    subst (λ g. g.start + total_width (between g.first g.last c.insert_at.new.cells.items) ≤ g.end) (sym c.with_one_more-grown.ensures)
    (subst (λ zs. w.start + total_width (between w.first (w.last + 1) zs) ≤ w.end) (sym c.in_ok-insert_at.ensures.items)
    (room_grown c.args.room c.args.gap xs y w is e.first e.last))

pub returns-clause-packed : goal.returns-clause-packed
returns-clause-packed c =
    let xs = c.args.cells.now.items in
    let y = c.args.cell in
    let w = c.window_at-window.result in
    let e = c.window_at-window.ensures in
    let is = subst (λ zs. IsWindow c.args.room zs y.width w) c.as_slice.ensures.value e.window in
    let moved = subst (λ g. MovesWithin g (insert xs c.args.gap y) c.move_list.new.cells.items) c.with_one_more-grown.ensures
    (subst (λ zs. MovesWithin c.with_one_more-grown.result zs c.move_list.new.cells.items) c.in_ok-insert_at.ensures.items c.move_list.ensures.moved) in
    packed_grown c.args.room c.args.gap xs c.move_list.new.cells.items y w c.requires.packed is e.first e.last moved

pub returns-clause-same : goal.returns-clause-same
returns-clause-same c =
    let xs = c.args.cells.now.items in
    let y = c.args.cell in
    let w = c.window_at-window.result in
    let e = c.window_at-window.ensures in
    let first = e.first in
    let last = e.last in
    let moved = subst (λ g. MovesWithin g (insert xs c.args.gap y) c.move_list.new.cells.items) c.with_one_more-grown.ensures
    (subst (λ zs. MovesWithin c.with_one_more-grown.result zs c.move_list.new.cells.items) c.in_ok-insert_at.ensures.items c.move_list.ensures.moved) in
    same_moved_within (grown w) (insert xs c.args.gap y) c.move_list.new.cells.items (omega (arith, first, last)) moved

pub returns-clause-free : goal.returns-clause-free
returns-clause-free c = λ p.
    let xs = c.args.cells.now.items in
    let y = c.args.cell in
    let w = c.window_at-window.result in
    let e = c.window_at-window.ensures in
    let is = subst (λ zs. IsWindow c.args.room zs y.width w) c.as_slice.ensures.value e.window in
    let moved = subst (λ g. MovesWithin g (insert xs c.args.gap y) c.move_list.new.cells.items) c.with_one_more-grown.ensures
    (subst (λ zs. MovesWithin c.with_one_more-grown.result zs c.move_list.new.cells.items) c.in_ok-insert_at.ensures.items c.move_list.ensures.moved) in
    kept_grown c.args.room c.args.gap xs c.move_list.new.cells.items y w is e.first e.last moved p

pub returns-clause-cost : goal.returns-clause-cost
returns-clause-cost c =
    let xs = c.args.cells.now.items in
    let ys = c.move_list.new.cells.items in
    let y = c.args.cell in
    let w = c.window_at-window.result in
    let e = c.window_at-window.ensures in
    let is = subst (λ zs. IsWindow c.args.room zs y.width w) c.as_slice.ensures.value e.window in
    let moved = subst (λ g. MovesWithin g (insert xs c.args.gap y) ys) c.with_one_more-grown.ensures
    (subst (λ zs. MovesWithin c.with_one_more-grown.result zs ys) c.in_ok-insert_at.ensures.items c.move_list.ensures.moved) in
    let ways = way_grown c.args.room c.args.gap xs ys y w is e.first e.last moved in
    let before = c.total_displacement-before.ensures.way ∙ ap (λ zs. total_site_displacement (between w.first w.last zs)) c.deref.ensures.value in
    let g = c.with_one_more-grown.result in
    let after = c.total_displacement-after.ensures.way ∙ ap (λ zs. total_site_displacement (between g.first g.last zs)) c.deref-2.ensures.value
    ∙ ap (λ g. total_site_displacement (between g.first g.last ys)) c.with_one_more-grown.ensures in
    let growth = c.growth.ensures in
    let fits : SFits w64 c.growth.result = search rules in
    omega (arith, ints, ways, before, after, growth, fits)
