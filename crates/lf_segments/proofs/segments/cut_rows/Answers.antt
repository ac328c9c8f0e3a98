use Rattle.std.proofs.Common.{◌≡◌, List, Some, length, get_or, slice_get, sym, subst, ap, ◌∙◌, arith}
use Rattle.std.specs.Prelude.{IsPermutation}
use Rattle.lf_rtree.specs.declared.placed.Placed.{Placed}
use Rattle.lf_floorplan.specs.declared.parts.Row.{Row}
use Rattle.lf_segments.proofs.TreeLemmas.{boxes_near, row_of}
use Rattle.lf_segments.proofs.GroupLemmas.{open_is_team}
use Rattle.lf_segments.proofs.RowLemmas.{cut_more, cut_whole}
use Rattle.lf_segments.proofs.segments.cut_rows.Goals as goal

pub push_row-requires-clause-boxes : goal.push_row-requires-clause-boxes
push_row-requires-clause-boxes c =
    let moved = subst (λ (xs : List Placed). IsPermutation xs c.build.new.boxes) (c.as_mut_slice.ensures.value ∙ c.in_ok-boxes.ensures)
    c.in_ok-tree.ensures.same in
    boxes_near c.args.frame.now c.row-item.result c.build.new.boxes _ c.find_near.new.found.items c.area.result moved c.in_ok-tree.ensures.tree c.area.ensures
    c.in_ok-find_near.ensures

pub loop-number-preserved : goal.loop-number-preserved
loop-number-preserved c =
    let f = c.args.frame.now in
    let n = c.loop-number.number in
    let r = c.row-item.result in
    let items = c.as_slice-row-items.ensures in
    let long = ap (λ (rows : List Row). length rows) items in
    let is_row : slice_get f.rows n ≡ Some r =
    row_of f n r (omega (arith, long)) ∙ ap (λ (q : Row). Some q) (sym (c.row-item.is ∙ ap (λ (rows : List Row). get_or rows n r) items)) in
    cut_more f n c.row-item.result c.loop-number.segments.items c.push_row.new.segments.items is_row (λ u x o. open_is_team f c.row-item.result u x o)
    c.loop-number.invariant
    c.in_ok-push_row.ensures

pub returns : goal.returns
returns c =
    let long = ap (λ (rows : List Row). length rows) c.as_slice-row-items.ensures in
    cut_whole c.args.frame.now c.loop-number.number c.loop-number.segments.items (omega (arith, long)) (omega (arith, long)) c.loop-number.invariant
