use Rattle.std.proofs.Common.{◌≡◌, List, Some, [], length, get_or, slice_get, sym, ap, subst, ◌∙◌, arith, rules}
use Rattle.lf_floorplan.specs.declared.parts.Row.{Row}
use Rattle.lf_floorplan.specs.Rows.{IsCoreRow}
use Rattle.lf_segments.specs.Boxes.{AreBoxesOf, AreSorted}
use Rattle.lf_segments.proofs.TreeLemmas.{row_of}
use Rattle.lf_segments.proofs.GroupLemmas.{open_is_team}
use Rattle.lf_segments.proofs.RowLemmas.{cut_more, cut_whole}
use Rattle.lf_segments.proofs.segments.cut_both.Goals as goal

pub push_row-requires : goal.push_row-requires
push_row-requires c =
    let f = c.args.frame.now in
    let core_ones : IsCoreRow f.pitch c.row-item.result = search rules in
    record {
      core_ones = core_ones;
      boxes = subst (AreBoxesOf f f.obstacles c.row-item.result) (sym c.as_slice-near.ensures.value) c.in_ok-boxes_near.ensures.boxes;
      sorted = subst AreSorted (sym c.as_slice-near.ensures.value) c.in_ok-boxes_near.ensures.sorted;
    }

pub push_land-requires : goal.push_land-requires
push_land-requires c =
    let f = c.args.frame.now in
    let core_ones : IsCoreRow f.pitch c.row-item.result = search rules in
    record {
      core_ones = core_ones;
      boxes = subst (AreBoxesOf f f.obstacles c.row-item.result) (sym c.as_slice-near.ensures.value) c.in_ok-boxes_near.ensures.boxes;
      sorted = subst AreSorted (sym c.as_slice-near.ensures.value) c.in_ok-boxes_near.ensures.sorted;
    }

pub loop-number-preserved : goal.loop-number-preserved
loop-number-preserved c =
    let f = c.args.frame.now in
    let n = c.loop-number.number in
    let r = c.row-item.result in
    let items = c.as_slice-row-items.ensures in
    let long = ap (λ (rows : List Row). length rows) items in
    let is_row : slice_get f.rows n ≡ Some r =
    row_of f n r (omega (arith, long)) ∙ ap (λ (q : Row). Some q) (sym (c.row-item.is ∙ ap (λ (rows : List Row). get_or rows n r) items)) in (
      cut_more f f.obstacles n r c.loop-number.segments.items c.push_row.new.segments.items is_row (λ u x o. open_is_team f f.obstacles r u x o)
          c.loop-number.invariant.0
          c.in_ok-push_row.ensures,
      cut_more f [] n r c.loop-number.land.items c.push_land.new.land.items is_row (λ u x o. open_is_team f [] r u x o) c.loop-number.invariant.1
          c.in_ok-push_land.ensures,
    )

pub returns-clause-segments : goal.returns-clause-segments
returns-clause-segments c =
    let f = c.args.frame.now in
    let long = ap (λ (rows : List Row). length rows) c.as_slice-row-items.ensures in
    cut_whole f f.obstacles c.loop-number.number c.loop-number.segments.items (omega (arith, long)) (omega (arith, long)) c.loop-number.invariant.0

pub returns-clause-land : goal.returns-clause-land
returns-clause-land c =
    let f = c.args.frame.now in
    let long = ap (λ (rows : List Row). length rows) c.as_slice-row-items.ensures in
    cut_whole f [] c.loop-number.number c.loop-number.land.items (omega (arith, long)) (omega (arith, long)) c.loop-number.invariant.1
