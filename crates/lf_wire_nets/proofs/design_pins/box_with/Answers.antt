use Rattle.std.proofs.Common.{◌≡◌, ◌∙◌, ap, ap₂, refl, w64, to_z, of_z, arith}
use Rattle.std.specs.Int.{int_max, int_min}
use Rattle.std.proofs.lemmas.Int.{ints}
use Rattle.lf_wire_nets.proofs.design_pins.box_with.Goals as goal

pub returns-clause-around : goal.returns-clause-around
returns-clause-around c =
    let rect = c.args.rect.now in
    let point = c.args.point.now in
    let across = c.span_with-across.ensures in
    let up = c.span_with-up.ensures in
    let x1 : to_z w64 (of_z w64 rect.x1) ≡ rect.x1 = omega (arith, ints, c.requires.rect.x1.low, c.requires.rect.x1.high) in
    let y1 : to_z w64 (of_z w64 rect.y1) ≡ rect.y1 = omega (arith, ints, c.requires.rect.y1.low, c.requires.rect.y1.high) in
    let x2 : to_z w64 (of_z w64 rect.x2) ≡ rect.x2 = omega (arith, ints, c.requires.rect.x2.low, c.requires.rect.x2.high) in
    let y2 : to_z w64 (of_z w64 rect.y2) ≡ rect.y2 = omega (arith, ints, c.requires.rect.y2.low, c.requires.rect.y2.high) in
    let x : to_z w64 (of_z w64 point.x) ≡ point.x = omega (arith, ints, c.requires.point.x.low, c.requires.point.x.high) in
    let y : to_z w64 (of_z w64 point.y) ≡ point.y = omega (arith, ints, c.requires.point.y.low, c.requires.point.y.high) in
    let left : to_z w64 (of_z w64 c.span_with-across.result.lo) ≡ c.span_with-across.result.lo = omega (arith, ints, across.lo.low, across.lo.high) in
    let bottom : to_z w64 (of_z w64 c.span_with-up.result.lo) ≡ c.span_with-up.result.lo = omega (arith, ints, up.lo.low, up.lo.high) in
    let right : to_z w64 (of_z w64 c.span_with-across.result.hi) ≡ c.span_with-across.result.hi = omega (arith, ints, across.hi.low, across.hi.high) in
    let top : to_z w64 (of_z w64 c.span_with-up.result.hi) ≡ c.span_with-up.result.hi = omega (arith, ints, up.hi.low, up.hi.high) in
    rw (
      left ∙ ap (λ s. s.lo) across.span ∙ ap₂ int_min x1 x,
      bottom ∙ ap (λ s. s.lo) up.span ∙ ap₂ int_min y1 y,
      right ∙ ap (λ s. s.hi) across.span ∙ ap₂ int_max x2 x,
      top ∙ ap (λ s. s.hi) up.span ∙ ap₂ int_max y2 y,
    ) refl
