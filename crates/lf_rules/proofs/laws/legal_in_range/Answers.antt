use Rattle.std.proofs.Common.{arith, subst}
use Rattle.std.proofs.lemmas.Int.{ints}
use Rattle.lf_floorplan.specs.declared.parts.Row.{Row}
use Rattle.lf_floorplan.specs.Rows.{IsCoreRow}
use Rattle.lf_rules.specs.declared.rule.Rule.TheVariants.{Row as RowRule}
use Rattle.lf_rules.specs.Legality.{Holds}
use Rattle.lf_floorplan.specs.Boxes.{size_of}
use Rattle.lf_floorplan.specs.Sizes.{turned}
use Rattle.lf_floorplan.proofs.SizeBounds.{IsSmall, small_pitch, turned_small, sized_pitch}
use Rattle.lf_rules.proofs.laws.legal_in_range.Goals as goal

pub returns : goal.returns
returns c t sized legal =
    let found : Holds t RowRule = legal RowRule in
    let row = found.0 in
    let bottom = found.1 in
    let core_ones : IsCoreRow t.frame.pitch row = subst (λ (r : Row). IsCoreRow t.frame.pitch r) bottom.core_ones.2 (t.frame.rows_are_core bottom.core_ones.0 row bottom.core_ones.1) in
    let small : IsSmall (turned (size_of t.frame t.mac) t.orient) = turned_small _ _ (small_pitch _ _ _ (sized_pitch _ _ sized)) in
    let left = bottom.at_bottom.left in
    let right = bottom.at_bottom.right in
    let level = bottom.at_bottom.at_level in (
      record { above = omega (arith, ints, left, core_ones.x_in_def.above); most = omega (arith, ints, right, core_ones.ends, small.wide) },
      record { above = omega (arith, ints, level, core_ones.y_in_def.above); most = omega (arith, ints, level, core_ones.y_in_def.most) },
    )
