use Rattle.std.proofs.Common.{ℕ, ℤ, pos, negsuc, ◌≡◌, ◌*ℤ◌, ◌-ℤ◌, ◌*◌, ◌%◌, ◌/◌, ap, rules, arith, IsTrue, ◌↔◌, ◌≤ℤ◌, ◌<ℤ◌, FitsSigned, w64, to_z, of_z, nat_eq, eq-eqb}
use Rattle.std.proofs.lemmas.Int.{ints, to_z-of_z}
use Rattle.std.proofs.lemmas.Bool.Decides.{nat_tests}
use Rattle.std.proofs.Math.Nat.{mul-mod_left}
use Rattle.std.specs.Int.RustNames.{int_rem}
use Rattle.lf_rules.proofs.rows.is_on_grid.Goals as goal

divides : (v s : ℤ) → pos 0 ≤ℤ v → pos 0 <ℤ s → (IsTrue (nat_eq (of_z w64 (int_rem v s)) 0) ↔ ((n : ℕ) × (v ≡ pos n *ℤ s)))
divides (pos v) (pos s) l p = (
  λ t. let none : v % s ≡ 0 = grind (arith, nat_tests) in (v / s, ap pos (omega arith)),
  λ n. let is : v ≡ n.0 * s = cc in eq-eqb (v % s) 0 (rw is (mul-mod_left n.0 s)),
)
divides (pos v) (negsuc s) l p = absurd (omega (arith, ints))
divides (negsuc v) s l p = absurd (omega (arith, ints))

pub nonzero_rem-result : goal.nonzero_rem-result
nonzero_rem-result c =
    let wide = c.args.frame.now.pitch_whole.wide in
    search (rules, wide)

pub returns : goal.returns
returns c =
    let offset : to_z w64 (of_z w64 (to_z w64 (of_z w64 c.args.rect.now.x1) -ℤ to_z w64 (of_z w64 c.from.result))) ≡ c.args.rect.now.x1 -ℤ c.args.row.now.x = omega (arith, ints) in
    let step : FitsSigned w64 c.args.frame.now.pitch.x = search rules in
    let least : pos 0 ≤ℤ (c.args.rect.now.x1 -ℤ c.args.row.now.x) = omega (arith, ints) in
    let positive : pos 0 <ℤ c.args.frame.now.pitch.x = c.args.frame.now.pitch_whole.wide in
    rw (offset, to_z-of_z w64 c.args.frame.now.pitch.x step) (divides (c.args.rect.now.x1 -ℤ c.args.row.now.x) c.args.frame.now.pitch.x least positive)
