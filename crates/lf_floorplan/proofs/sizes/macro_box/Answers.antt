use Rattle.std.proofs.Common.{arith}
use Rattle.std.proofs.lemmas.Int.{ints}
use Rattle.lf_units.proofs.Same.{same_rect}
use Rattle.lf_floorplan.proofs.SizeBounds.{IsSmall, small_pitch, turned_small}
use Rattle.lf_floorplan.proofs.sizes.macro_box.Goals as goal

pub overflow_add-result : goal.overflow_add-result
overflow_add-result c =
    let small : IsSmall c.turned_size-size.result = rw (c.turned_size-size.ensures, c.size_in_units.ensures)
    (turned_small _ _ (small_pitch _ _ _ c.requires.whole)) in
    omega (arith, ints)

pub overflow_add-result-2 : goal.overflow_add-result-2
overflow_add-result-2 c =
    let small : IsSmall c.turned_size-size.result = rw (c.turned_size-size.ensures, c.size_in_units.ensures)
    (turned_small _ _ (small_pitch _ _ _ c.requires.whole)) in
    omega (arith, ints)

pub returns-clause-is : goal.returns-clause-is
returns-clause-is c =
    let small : IsSmall c.turned_size-size.result = rw (c.turned_size-size.ensures, c.size_in_units.ensures)
    (turned_small _ _ (small_pitch _ _ _ c.requires.whole)) in
    rw (← c.size_in_units.ensures, ← c.turned_size-size.ensures)
    (same_rect _ _ (omega (arith, ints)) (omega (arith, ints)) (omega (arith, ints)) (omega (arith, ints)))

pub returns-clause-near : goal.returns-clause-near
returns-clause-near c =
    let small : IsSmall c.turned_size-size.result = rw (c.turned_size-size.ensures, c.size_in_units.ensures)
    (turned_small _ _ (small_pitch _ _ _ c.requires.whole)) in
    record {
      across = record { from = record { above = omega (arith, ints); most = omega (arith, ints) }; to = omega (arith, ints); in_order = omega (arith, ints) };
      up = record { from = record { above = omega (arith, ints); most = omega (arith, ints) }; to = omega (arith, ints); in_order = omega (arith, ints) };
    }
