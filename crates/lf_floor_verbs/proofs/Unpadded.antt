-- When a design is opened, no team has a padding.
use Rattle.std.proofs.Common.{◌≡◌, ℕ, zero, suc, List, ◌∷◌, map, replicate, Result, Ok, Err, IfOk, refl, ap, ap₂, ◌∙◌}
use Rattle.lf_rules.specs.declared.padding.Padding.{Padding as Sites}

none_each : (count : ℕ) (padding : Sites) → padding.sites ≡ 0 → map (λ (p : Sites). p.sites) (replicate count padding) ≡ replicate count 0
none_each zero padding none = refl
none_each (suc n) padding none = ap₂ (λ (x : ℕ) (xs : List ℕ). x ∷ xs) none (none_each n padding none)

pub none_padded : {V E : Type 0} {P : V → Type 0} (items : V → List Sites) (count : ℕ) (padding : Sites) (made : Result V E) → padding.sites ≡ 0 → ((v : V) → P v) →
    IfOk made (λ v. P v → items v ≡ replicate count padding) → IfOk made (λ v. map (λ (p : Sites). p.sites) (items v) ≡ replicate count 0)
none_padded items count padding (Ok v) none p is = ap (λ (ps : List Sites). map (λ (s : Sites). s.sites) ps) (is (p v)) ∙ none_each count padding none
none_padded items count padding (Err e) none p is = tt
