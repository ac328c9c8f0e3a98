use Rattle.std.proofs.Common.{◌≡◌, List, Some, get_or, slice_get, pos, ap, arith}
use Rattle.std.specs.Option.{option_map_or}
use Rattle.std.proofs.lemmas.Int.{ints}
use Rattle.std.proofs.lemmas.Option.{slice_get-get_or}
use Rattle.lf_floorplan.specs.declared.parts.Row.{Row}
use Rattle.lf_segments.specs.Strips.{row_y}
use Rattle.lf_segments.proofs.strips.level.Goals as goal

pub returns : goal.returns
returns c =
    let f = c.args.frame.now in
    let n = c.args.row in
    let r = c.index-as_slice-row.result in
    let same = ap (λ (rows : List Row). (get_or rows n r).y) c.as_slice.ensures in
    let is_in_place : slice_get f.rows n ≡ Some (get_or f.rows n r) = slice_get-get_or f.rows n r c.requires in
    let is : row_y f n ≡ (get_or f.rows n r).y = ap (λ o. option_map_or (λ (q : Row). q.y) o (pos 0)) is_in_place in
    let core_ones = f.rows_are_core n r c.requires in
    let low = core_ones.y_in_def.above in
    let high = core_ones.y_in_def.most in
    let from = c.from.ensures in
    record {
      is = omega (arith, ints, same, is, low, high, from);
      low = omega (arith, ints, same, low, high, from);
      high = omega (arith, ints, same, low, high, from);
    }
