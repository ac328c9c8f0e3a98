use Rattle.std.proofs.Common.{ℤ, ◌<ℤ◌, ◌≤ℤ◌, ◌+ℤ◌, ◌-ℤ◌, w64, to_z, of_z, arith, inl, inr}
use Rattle.std.proofs.lemmas.Int.{ints}
use Rattle.lf_units.proofs.Grids.{less_from}
use Rattle.lf_units.proofs.Comparisons.{not_less_of}
use Rattle.lf_units.proofs.grid.nearer.Goals as goal

pub returns-then-ahead-after_it : goal.returns-then-ahead-after_it
returns-then-ahead-after_it c =
    let left = c.args.left in
    let target = c.args.target in
    let right : ℤ = to_z w64 (of_z w64 left) +ℤ to_z w64 (of_z w64 c.args.grid.now.step) in
    let ahead : ℤ = to_z w64 (of_z w64 right) -ℤ to_z w64 (of_z w64 target) in
    let after_it : ℤ = to_z w64 (of_z w64 target) -ℤ to_z w64 (of_z w64 left) in
    let less : to_z w64 (of_z w64 ahead) <ℤ to_z w64 (of_z w64 after_it) = less_from (to_z w64 (of_z w64 ahead)) (to_z w64 (of_z w64 after_it))
    c.if-ahead-after_it.true in
    inr (omega (arith, ints), omega (arith, ints, less))

pub returns : goal.returns
returns c =
    let left = c.args.left in
    let target = c.args.target in
    let right : ℤ = to_z w64 (of_z w64 left) +ℤ to_z w64 (of_z w64 c.args.grid.now.step) in
    let ahead : ℤ = to_z w64 (of_z w64 right) -ℤ to_z w64 (of_z w64 target) in
    let after_it : ℤ = to_z w64 (of_z w64 target) -ℤ to_z w64 (of_z w64 left) in
    let more : to_z w64 (of_z w64 after_it) ≤ℤ to_z w64 (of_z w64 ahead) = not_less_of (to_z w64 (of_z w64 ahead)) (to_z w64 (of_z w64 after_it))
    c.if-ahead-after_it.false in
    inl (omega (arith, ints), omega (arith, ints, more))
