use Rattle.std.proofs.Common.{◌≡◌, refl, slice_get, Some, rules, length, arith}
use Rattle.std.proofs.lemmas.Option.{slice_get_read}
use Rattle.lf_floorplan.specs.declared.parts.Row.{Row}
use Rattle.lf_floorplan.specs.declared.frame.Frame.{Frame}
use Rattle.lf_floorplan.specs.Rows.{row_area, IsCoreRow}
use Rattle.lf_floorplan.specs.Bounds.{IsNearDefRect}
use Rattle.lf_floorplan.proofs.SizeBounds.{small_pitch}
use Rattle.lf_segments.proofs.ExtentLemmas.{IsHull, hull_holds, area_near, one_more, all_rows}
use Rattle.lf_segments.proofs.extent.extent_of.Goals as goal

-- The area of a row of a frame.
near_row : (f : Frame) (r : Row) → IsCoreRow f.pitch r → IsNearDefRect (row_area f.pitch r)
near_row f r core_ones = area_near f.pitch r (small_pitch f.header.units f.site.size f.pitch f.pitch_whole) core_ones

pub loop-row-init : goal.loop-row-init
loop-row-init c =
    let core_ones : IsCoreRow c.args.frame.now.pitch c.index-rows-0.result = search rules in
    record {
      near = rw c.area-extent.ensures (near_row c.args.frame.now c.index-rows-0.result core_ones);
      rows = λ k r less there. absurd (omega (arith, less));
    }

pub loop-row-preserved : goal.loop-row-preserved
loop-row-preserved c =
    let core_ones : IsCoreRow c.args.frame.now.pitch c.row-item.result = search rules in
    let there : slice_get c.args.frame.now.rows c.loop-row.row-index ≡ Some c.row-item.result =
    slice_get_read _ _ c.loop-row.row-index c.row-item.result refl (search rules) (search rules) in
    let hull : IsHull c.loop-row.extent c.area.result c.hull-extent.result = rw c.hull-extent.ensures (hull_holds c.loop-row.extent c.area.result) in
    record {
      near = hull.near c.loop-row.invariant.near (rw c.area.ensures (near_row c.args.frame.now c.row-item.result core_ones));
      rows = one_more c.args.frame.now.pitch c.args.frame.now.rows c.loop-row.row-index c.row-item.result c.area.result c.loop-row.extent c.hull-extent.result
          there c.area.ensures hull c.loop-row.invariant.rows;
    }

pub returns : goal.returns
returns c =
    let all : c.loop-row.row-index ≡ length c.args.frame.now.rows = search rules in
    record { near = c.loop-row.invariant.near; rows = all_rows _ _ _ (rw (← all) c.loop-row.invariant.rows) }
