-- A claim that counts a set of fences, when the set grows.
use Rattle.std.proofs.Common.{◌≡◌, ℕ, ◌+◌, ◌<◌, ◌≤◌, ◌⊎◌, inl, inr, Bool, true, false, eqb, if◌then◌else◌, List, [], ◌∷◌, ◌++◌, length, take, get_or, refl, sym, ◌∙◌, arith}
use Rattle.std.proofs.lemmas.Bool.{eqb-true, eqb-false}
use Rattle.std.proofs.lemmas.List.{take_all}
use Rattle.std.proofs.lemmas.Grind.{common_steps}
use Rattle.lf_names.specs.Pattern.{Matches}
use Rattle.lf_frame.specs.declared.claim.Claim.{Claim}
use Rattle.lf_frame.specs.declared.claim.Claim.TheVariants.{Unclaimed, ByOne, ByTwo}
use Rattle.lf_frame.specs.declared.star_patterns.FencePattern.{FencePattern}
use Rattle.lf_frame.specs.Claims.{claim_with, merged, CountsFences, ClaimsBy, AddsPattern}
use Rattle.lf_units.proofs.Any.{any_first, any_parts, any_left, any_right, any_one}

-- A set of fences and one more fence.
pub reports_joined : (S T : ℕ → Type 0) (claim : Claim) (n : ℕ) → ((m : ℕ) → S m → T m) → T n → ((m : ℕ) → T m → S m ⊎ (m ≡ n)) → CountsFences S claim →
    CountsFences T (claim_with claim n)
reports_joined S T Unclaimed n old new cases none = (new, λ m h. elim (cases m h) [ inl s ↦ absurd (none m s) | inr e ↦ e ])
reports_joined S T (ByOne one) n old new cases h = by (eqb one n) refl
  where
    by : (t : Bool) → eqb one n ≡ t → CountsFences T (if t then ByOne one else ByTwo)
    by true e =
        let same : one ≡ n = eqb-true one n e in
        (old one h.0, λ m t. elim (cases m t) [ inl s ↦ h.1 m s | inr is ↦ is ∙ sym same ])
    by false e = (one, n, eqb-false one n e, old one h.0, new)
reports_joined S T ByTwo n old new cases (a, b, differ, in_a, in_b) = (a, b, differ, old a in_a, old b in_b)

pub reports_same : (S T : ℕ → Type 0) (claim : Claim) → ((m : ℕ) → S m → T m) → ((m : ℕ) → T m → S m) → CountsFences S claim → CountsFences T claim
reports_same S T Unclaimed forth back none = λ m t. none m (back m t)
reports_same S T (ByOne one) forth back h = (forth one h.0, λ m t. h.1 m (back m t))
reports_same S T ByTwo forth back (a, b, differ, in_a, in_b) = (a, b, differ, forth a in_a, forth b in_b)

-- The union of two sets of fences.
pub reports_merged : (S T : ℕ → Type 0) (claim more : Claim) → CountsFences S claim → CountsFences T more → CountsFences (λ m. S m ⊎ T m) (merged claim more)
reports_merged S T claim Unclaimed h none = reports_same S (λ m. S m ⊎ T m) claim (λ m s. inl s) (λ m u. elim u [ inl s ↦ s | inr t ↦ absurd (none m t) ]) h
reports_merged S T claim (ByOne one) h g = reports_joined S (λ m. S m ⊎ T m) claim one (λ m s. inl s) (inr g.0) (λ m u. elim u [ inl s ↦ inl s | inr t ↦ inr (g.1 m t) ]) h
reports_merged S T claim ByTwo h (a, b, differ, in_a, in_b) = (a, b, differ, inr in_a, inr in_b)

-- Bound patterns and one more pattern.
pub claims_parts : (bounds : List FencePattern) (b : FencePattern) (name : List ℕ) (n : ℕ) → ClaimsBy (bounds ++ b ∷ []) name n →
    ClaimsBy bounds name n ⊎ ((b.fence ≡ n) × Matches b.pattern name)
claims_parts bounds b name n h = elim (any_parts (λ c. (c.fence ≡ n) × Matches c.pattern name) bounds (b ∷ []) h) [
  | inl early ↦ inl early
  | inr late ↦ inr (any_one (λ c. (c.fence ≡ n) × Matches c.pattern name) b late)
]

pub claims_old : (bounds : List FencePattern) (b : FencePattern) (name : List ℕ) (n : ℕ) → ClaimsBy bounds name n → ClaimsBy (bounds ++ b ∷ []) name n
claims_old bounds b name n h = any_left (λ c. (c.fence ≡ n) × Matches c.pattern name) bounds (b ∷ []) h

pub claims_new : (bounds : List FencePattern) (b : FencePattern) (name : List ℕ) → Matches b.pattern name → ClaimsBy (bounds ++ b ∷ []) name b.fence
claims_new bounds b name h =
    any_right (λ c. (c.fence ≡ b.fence) × Matches c.pattern name) bounds (b ∷ []) (any_first (λ c. (c.fence ≡ b.fence) × Matches c.pattern name) b [] (refl, h))

pub reports_one_more : (bounds : List FencePattern) (b : FencePattern) (name : List ℕ) (claim : Claim) → Matches b.pattern name → CountsFences (ClaimsBy bounds name) claim →
    CountsFences (ClaimsBy (bounds ++ b ∷ []) name) (claim_with claim b.fence)
reports_one_more bounds b name claim is_in_place h =
    reports_joined (ClaimsBy bounds name) (ClaimsBy (bounds ++ b ∷ []) name) claim b.fence (λ m. claims_old bounds b name m) (claims_new bounds b name is_in_place)
    (λ m c. elim (claims_parts bounds b name m c) [ inl early ↦ inl early | inr own ↦ inr (sym own.0) ]) h

pub reports_no_more : (bounds : List FencePattern) (b : FencePattern) (name : List ℕ) (claim : Claim) → (Matches b.pattern name → ⊥) → CountsFences (ClaimsBy bounds name) claim →
    CountsFences (ClaimsBy (bounds ++ b ∷ []) name) claim
reports_no_more bounds b name claim apart h =
    reports_same (ClaimsBy bounds name) (ClaimsBy (bounds ++ b ∷ []) name) claim (λ m. claims_old bounds b name m)
    (λ m c. elim (claims_parts bounds b name m c) [ inl early ↦ early | inr own ↦ absurd (apart own.1) ]) h

pub reports_step : (bounds : List FencePattern) (b : FencePattern) (name : List ℕ) (claim after : Claim) → AddsPattern b name claim after → CountsFences (ClaimsBy bounds name) claim →
    CountsFences (ClaimsBy (bounds ++ b ∷ []) name) after
reports_step bounds b name claim after (inl (is_in_place, is)) h = rw is (reports_one_more bounds b name claim is_in_place h)
reports_step bounds b name claim after (inr (apart, is)) h = rw is (reports_no_more bounds b name claim apart h)

pub one_bound_more : {A : Type 0} (xs : List A) (n : ℕ) (x : A) → n < length xs → x ≡ get_or xs n x → take n xs ++ x ∷ [] ≡ take (n + 1) xs
one_bound_more xs n x within is = grind (arith, common_steps)

pub all_bounds_seen : {A : Type 0} (xs : List A) (n : ℕ) → length xs ≤ n → take n xs ≡ xs
all_bounds_seen xs n past = take_all n xs past
