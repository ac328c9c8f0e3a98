use Rattle.std.proofs.Common.{FitsSigned, w64, rules, arith}
use Rattle.std.proofs.lemmas.Int.{ints, to_z-of_z}
use Rattle.lf_legalize.proofs.Extents.{nearest_low, nearest_high, nearest_own}
use Rattle.lf_legalize.proofs.extent.nearest_in.Goals as goal

pub returns-then-value-low : goal.returns-then-value-low
returns-then-value-low c =
    let less = c.if-value-low.true in
    let f : FitsSigned w64 c.args.low.now = search rules in
    rw (to_z-of_z w64 c.args.low.now f) (nearest_low c.args.low.now c.args.high.now c.args.value.now c.requires (grind (arith, ints)))

pub returns-then-high-value : goal.returns-then-high-value
returns-then-high-value c =
    let more = c.if-high-value.true in
    let f : FitsSigned w64 c.args.high.now = search rules in
    rw (to_z-of_z w64 c.args.high.now f) (nearest_high c.args.low.now c.args.high.now c.args.value.now c.requires (grind (arith, ints)))

pub returns : goal.returns
returns c =
    let above = c.if-value-low.false in
    let below = c.if-high-value.false in
    let f : FitsSigned w64 c.args.value.now = search rules in
    rw (to_z-of_z w64 c.args.value.now f) (nearest_own c.args.low.now c.args.high.now c.args.value.now (grind (arith, ints)) (grind (arith, ints)))
