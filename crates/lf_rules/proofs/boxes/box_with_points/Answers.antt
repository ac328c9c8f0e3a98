use Rattle.std.proofs.Common.{ap, arith}
use Rattle.std.proofs.lemmas.Int.{ints}
use Rattle.lf_units.specs.declared.geometry.Rect.{Rect}
use Rattle.lf_floorplan.specs.Sizes.{size_in_dbu, turned}
use Rattle.lf_floorplan.proofs.SizeBounds.{IsSmall, small_pitch, turned_small, sized_pitch}
use Rattle.lf_rules.proofs.boxes.box_with_points.Goals as goal

pub macro_box-requires : goal.macro_box-requires
macro_box-requires c = record { whole = sized_pitch c.args.frame.now c.args.mac.now c.requires }

pub returns-clause-solid : goal.returns-clause-solid
returns-clause-solid c =
    let small : IsSmall (turned (size_in_dbu c.args.frame.now.header.units c.args.mac.now.size) c.args.place.now.orient) =
    turned_small _ _ (small_pitch _ _ _ (sized_pitch c.args.frame.now c.args.mac.now c.requires)) in
    let left = ap (λ (r : Rect). r.x1) c.macro_box.ensures.is in
    let bottom = ap (λ (r : Rect). r.y1) c.macro_box.ensures.is in
    let right = ap (λ (r : Rect). r.x2) c.macro_box.ensures.is in
    let top = ap (λ (r : Rect). r.y2) c.macro_box.ensures.is in
    let near = c.macro_box.ensures.near in
    record {
      wide = omega (arith, ints, left, right, small.wide);
      high = omega (arith, ints, bottom, top, small.high);
      x_low = near.across.from.above;
      y_low = near.up.from.above;
      x_high = omega (arith, ints, near.across.to);
      y_high = omega (arith, ints, near.up.to);
    }
