use Rattle.std.proofs.Common.{◌≡◌, ◌≤ℤ◌, arith, of_z, rules, subst, sym, to_z, w64}
use Rattle.std.specs.Prelude.{T}
use Rattle.std.specs.Int.Signed.{le_z_yes}
use Rattle.std.proofs.lemmas.Int.{ints}
use Rattle.lf_occupancy.proofs.Separating.{first_of_rest}
use Rattle.lf_occupancy.proofs.apart.begin_from.Goals as goal

pub returns-in-Some : goal.returns-in-Some
returns-in-Some c = λ e k d least within.
    let there = c.in-Some.ensures.lookup in
    let x_is : to_z w64 (of_z w64 c.args.x.now) ≡ c.args.x.now = search rules in
    let from_is : to_z w64 (of_z w64 c.from.result) ≡ c.from.result = search rules in
    let begins : to_z w64 (of_z w64 c.args.x.now) ≤ℤ to_z w64 (of_z w64 c.from.result) = le_z_yes (subst T (sym e) tt) in
    let left = c.from.ensures in
    first_of_rest c.args.marks.now c.args.from c.in-Some.mark.now c.args.x.now c.requires there.1 (omega (arith, ints, begins, x_is, from_is, left)) k d least within
