-- Patterns with a star, some stored at the front and the others at the back.
use Rattle.std.proofs.Common.{◌≡◌, ℕ, ◌⊎◌, inl, inr, List, [], ◌∷◌, ◌++◌}
use Rattle.lf_names.specs.Pattern.{Matches}
use Rattle.lf_frame.specs.declared.claim.Claim.{Claim}
use Rattle.lf_frame.specs.declared.claim.Claim.TheVariants.{Unclaimed}
use Rattle.lf_frame.specs.declared.star_patterns.FencePattern.{FencePattern}
use Rattle.lf_frame.specs.declared.star_patterns.StarredPatterns.{StarredPatterns}
use Rattle.lf_frame.specs.Claims.{merged, CountsFences, ClaimsBy, HasAtEnd, HasStarred}
use Rattle.lf_frame.proofs.KeyLemmas.{no_claim_no_pattern}
use Rattle.lf_frame.proofs.ClaimCounts.{claims_parts, claims_old, claims_new, reports_same, reports_merged}
use Rattle.lf_units.proofs.Any.{none_of_nothing}

claims_none : (bounds : List FencePattern) (name : List ℕ) (fence : ℕ) → bounds ≡ [] → ClaimsBy bounds name fence → ⊥
claims_none bounds name fence none c = none_of_nothing (λ b. (b.fence ≡ fence) × Matches b.pattern name) (rw none at c)

-- There is no pattern if and only if there is no pattern at either end.
module _ (starred : StarredPatterns) (bounds : List FencePattern) (h : HasStarred starred bounds) where
  pub none_together : h.fronts ≡ [] → h.backs ≡ [] → bounds ≡ []
  none_together front back = no_claim_no_pattern bounds (λ name fence c. elim ((h.together name fence).0 c) [
    | inl f ↦ claims_none h.fronts name fence front f
    | inr k ↦ claims_none h.backs name fence back k
  ])

  pub none_at_front : bounds ≡ [] → h.fronts ≡ []
  none_at_front none = no_claim_no_pattern h.fronts (λ name fence c. claims_none bounds name fence none ((h.together name fence).1 (inl c)))

  pub none_at_back : bounds ≡ [] → h.backs ≡ []
  none_at_back none = no_claim_no_pattern h.backs (λ name fence c. claims_none bounds name fence none ((h.together name fence).1 (inr c)))

-- One more pattern.
module _ (old new : StarredPatterns) (b : FencePattern) where
  pub has_more_at_front : new.backs ≡ old.backs → ((fronts : List FencePattern) → HasAtEnd old.fronts fronts → HasAtEnd new.fronts (fronts ++ b ∷ [])) →
      (bounds : List FencePattern) → HasStarred old bounds → HasStarred new (bounds ++ b ∷ [])
  has_more_at_front same more bounds h = record {
    fronts = h.fronts ++ b ∷ [];
    backs = h.backs;
    by_front = more h.fronts h.by_front;
    by_back = rw same h.by_back;
    together = λ name fence. (
      λ c. elim (claims_parts bounds b name fence c) [
        | inl early ↦ elim ((h.together name fence).0 early) [ inl f ↦ inl (claims_old h.fronts b name fence f) | inr k ↦ inr k ]
        | inr own ↦ inl (rw (← own.0) (claims_new h.fronts b name own.1))
      ],
      λ u. elim u [
        | inl f ↦ elim (claims_parts h.fronts b name fence f) [
          | inl early ↦ claims_old bounds b name fence ((h.together name fence).1 (inl early))
          | inr own ↦ rw (← own.0) (claims_new bounds b name own.1)
        ]
        | inr k ↦ claims_old bounds b name fence ((h.together name fence).1 (inr k))
      ],
    );
  }

  pub has_more_at_back : new.fronts ≡ old.fronts → ((backs : List FencePattern) → HasAtEnd old.backs backs → HasAtEnd new.backs (backs ++ b ∷ [])) →
      (bounds : List FencePattern) → HasStarred old bounds → HasStarred new (bounds ++ b ∷ [])
  has_more_at_back same more bounds h = record {
    fronts = h.fronts;
    backs = h.backs ++ b ∷ [];
    by_front = rw same h.by_front;
    by_back = more h.backs h.by_back;
    together = λ name fence. (
      λ c. elim (claims_parts bounds b name fence c) [
        | inl early ↦ elim ((h.together name fence).0 early) [ inl f ↦ inl f | inr k ↦ inr (claims_old h.backs b name fence k) ]
        | inr own ↦ inr (rw (← own.0) (claims_new h.backs b name own.1))
      ],
      λ u. elim u [
        | inl f ↦ claims_old bounds b name fence ((h.together name fence).1 (inl f))
        | inr k ↦ elim (claims_parts h.backs b name fence k) [
          | inl early ↦ claims_old bounds b name fence ((h.together name fence).1 (inr early))
          | inr own ↦ rw (← own.0) (claims_new bounds b name own.1)
        ]
      ],
    );
  }

-- All patterns claim what the patterns at the two ends claim.
pub reports_together : (starred : StarredPatterns) (name : List ℕ) (front back : Claim) →
    ((fronts : List FencePattern) → HasAtEnd starred.fronts fronts → CountsFences (ClaimsBy fronts name) front) →
    ((backs : List FencePattern) → HasAtEnd starred.backs backs → CountsFences (ClaimsBy backs name) back) → (bounds : List FencePattern) → HasStarred starred bounds →
    CountsFences (ClaimsBy bounds name) (merged front back)
reports_together starred name front back by_front by_back bounds h =
    reports_same (λ fence. ClaimsBy h.fronts name fence ⊎ ClaimsBy h.backs name fence) (ClaimsBy bounds name) (merged front back)
    (λ fence u. (h.together name fence).1 u) (λ fence c. (h.together name fence).0 c)
    (reports_merged (ClaimsBy h.fronts name) (ClaimsBy h.backs name) front back (by_front h.fronts h.by_front) (by_back h.backs h.by_back))

-- All patterns claim what the patterns at the front claim, if there are no patterns at the back.
pub reports_at_front : (starred : StarredPatterns) (name : List ℕ) (front : Claim) →
    ((fronts : List FencePattern) → HasAtEnd starred.fronts fronts → CountsFences (ClaimsBy fronts name) front) →
    ((backs : List FencePattern) → HasAtEnd starred.backs backs → backs ≡ []) → (bounds : List FencePattern) → HasStarred starred bounds → CountsFences (ClaimsBy bounds name) front
reports_at_front starred name front by_front none bounds h =
    reports_together starred name front Unclaimed by_front (λ backs has fence c. claims_none backs name fence (none backs has) c) bounds h
