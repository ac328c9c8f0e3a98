use Rattle.std.proofs.Common.{◌≡◌, ℤ, ◌-ℤ◌, w64, to_z, of_z, arith, rules}
use Rattle.std.proofs.lemmas.Bool.{ltb-true}
use Rattle.std.proofs.lemmas.Int.{ints}
use Rattle.lf_units.specs.Grids.{distance_to}
use Rattle.lf_units.proofs.Comparisons.{not_less_of}
use Rattle.lf_gaps.proofs.Nearest.{before_is}
use Rattle.lf_gaps.proofs.row.is_before.Goals as goal

pub returns : goal.returns
returns c t =
    let target = c.args.wanted.now.target in
    let last : ℤ = to_z w64 (of_z w64 c.args.span.now.hi) -ℤ to_z w64 (of_z w64 c.args.wanted.now.width) in
    let low = c.requires.bounded.high in
    let width = c.requires.wanted.width in
    let left = not_less_of (to_z w64 (of_z w64 target)) (to_z w64 (of_z w64 last)) c.if-wanted-last.false in
    let less = ltb-true c.abs_diff.result c.abs_diff-2.result t in
    let near : c.abs_diff.result ≡ distance_to target c.in-Some.found = search rules in
    let far : c.abs_diff-2.result ≡ distance_to target (c.args.span.now.hi -ℤ c.args.wanted.now.width) = search rules in
    before_is c.args.span.now c.args.best.now c.args.wanted.now c.in-Some.found c.in-Some.is (omega (arith, ints)) (omega (arith, near, far, less))
