use Rattle.std.proofs.Common.{◌*◌, ◌≤◌, ℕ, ℤ, pos, negsuc, ◌*ℤ◌, ◌≤ℤ◌, ◌<ℤ◌, FitsSigned, w64, arith, rules, subst, sym}
use Rattle.std.proofs.lemmas.Int.{ints, to_z-of_z}
use Rattle.std.proofs.Math.Nat.{mul-le-mul_right}
use Rattle.lf_occupancy.specs.Views.{IsPaddingOf}
use Rattle.lf_legalize.proofs.open_spans.padding_length.Goals as goal

-- a padding is at most the greatest one
not_longer : (p : ℤ) (sites : ℕ) → pos 0 <ℤ p → sites ≤ 16 → (pos sites *ℤ p) ≤ℤ (pos 16 *ℤ p)
not_longer (pos n) sites wide few =
    let most : sites * n ≤ 16 * n = mul-le-mul_right n few in
    omega (arith, ints, most)
not_longer (negsuc n) sites wide few = absurd (omega (arith, ints))

pub returns-clause-padding : goal.returns-clause-padding
returns-clause-padding c =
    let s = c.args.search.now in
    let by : ℤ = c.length.result in
    let fits : FitsSigned w64 by = search rules in
    let most = not_longer s.frame.now.pitch.x s.padding.sites s.frame.now.pitch_whole.wide s.padding.most in
    let is : IsPaddingOf s.occupancy.now by = record {
      least = c.length.ensures.short.least;
      most = subst (λ (w : ℤ). by ≤ℤ (pos 16 *ℤ w)) (sym c.search_is_occupied.ensures.site)
          (subst (λ (v : ℤ). v ≤ℤ (pos 16 *ℤ s.frame.now.pitch.x)) (sym c.length.ensures.is) most);
    } in
    subst (IsPaddingOf s.occupancy.now) (sym (to_z-of_z w64 by fits)) is
