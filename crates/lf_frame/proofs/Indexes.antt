-- Adding patterns to an index.
use Rattle.std.proofs.Common.{◌≡◌, ℕ, inl, inr, ◌↔◌, List, [], ◌∷◌, ◌++◌, refl, sym, subst, ap, append_assoc, arith}
use Rattle.std.proofs.lemmas.List.{append-nil}
use Rattle.std.proofs.lemmas.List.Elements.{Contains-append_left, Contains-push, Contains-push_cases}
use Rattle.std.proofs.lemmas.List.Sorted.{IsPermutation-sym, Contains-permutation}
use Rattle.std.specs.List.Sorted.{IsPermutation}
use Rattle.lf_names.specs.Pattern.{Matches}
use Rattle.lf_names.specs.Labels.{Labelled}
use Rattle.lf_frame.specs.declared.star_patterns.FencePattern.{FencePattern}
use Rattle.lf_frame.specs.declared.pattern_index.PatternIndex.{PatternIndex}
use Rattle.lf_frame.specs.Claims.{ClaimsBy, Labels, HasStarred, IndexesPatterns, ExtendsIndex}
use Rattle.lf_frame.proofs.ClaimCounts.{claims_parts, claims_old, claims_new}
use Rattle.lf_units.proofs.Any.{none_of_nothing}

none_labelled : (name : List ℕ) (n : ℕ) → Labels [] name n → ⊥
none_labelled name n h = omega (arith, h.1)

pub holds_nothing : (index : PatternIndex) → index.literals ≡ [] → HasStarred index.starred [] → IndexesPatterns index []
holds_nothing index empty none = record {
  starred = [];
  tried = none;
  forth = λ name n h. absurd (none_of_nothing (λ b. (b.fence ≡ n) × Matches b.pattern name) h);
  back = λ name n h. elim h [ inl early ↦ absurd (none_labelled name n (subst (λ literals. Labels literals name n) empty early)) | inr late ↦ late ];
}

-- A pattern as the name that it matches.
abbrev pub label_of : FencePattern → Labelled
label_of b = record { label = b.fence; name = b.pattern }

labelled_last : (literals : List Labelled) (b : FencePattern) (name : List ℕ) (n : ℕ) → b.fence ≡ n → name ≡ b.pattern → Labels (literals ++ label_of b ∷ []) name n
labelled_last literals b name n fence same = rw (← fence, same) (Contains-push literals (label_of b))

claimed_last : (bounds : List FencePattern) (b : FencePattern) (name : List ℕ) (n : ℕ) → Matches b.pattern b.pattern → label_of b ≡ record { label = n; name = name } →
    ClaimsBy (bounds ++ b ∷ []) name n
claimed_last bounds b name n own is =
    let fence : b.fence ≡ n = ap (λ (l : Labelled). l.label) is in
    let same : b.pattern ≡ name = ap (λ (l : Labelled). l.name) is in
    rw (← fence, ← same) (claims_new bounds b b.pattern own)

-- A pattern that matches only its own bytes.
pub extends_literal : (old new : PatternIndex) (b : FencePattern) → ((name : List ℕ) → (Matches b.pattern name ↔ (name ≡ b.pattern))) →
    IsPermutation (old.literals ++ label_of b ∷ []) new.literals → new.starred ≡ old.starred → ExtendsIndex old new (b ∷ [])
extends_literal old new b own kept starred bounds h = record {
  starred = h.starred;
  tried = rw starred h.tried;
  forth = λ name n c. elim (claims_parts bounds b name n c) [
    | inl early ↦ elim (h.forth name n early) [
      | inl one ↦ inl (put name n (Contains-append_left old.literals (label_of b ∷ []) (record { label = n; name = name }) one))
      | inr other ↦ inr other
    ]
    | inr here ↦ inl (put name n (labelled_last old.literals b name n here.0 ((own name).0 here.1)))
  ];
  back = λ name n c. elim c [
    | inl one ↦ elim (Contains-push_cases old.literals (label_of b) (record { label = n; name = name }) (was name n one)) [
      | inl early ↦ claims_old bounds b name n (h.back name n (inl early))
      | inr here ↦ claimed_last bounds b name n ((own b.pattern).1 refl) here
    ]
    | inr other ↦ claims_old bounds b name n (h.back name n (inr other))
  ];
}
  where
    put : (name : List ℕ) (n : ℕ) → Labels (old.literals ++ label_of b ∷ []) name n → Labels new.literals name n
    put name n there = Contains-permutation (old.literals ++ label_of b ∷ []) new.literals (record { label = n; name = name }) kept there

    was : (name : List ℕ) (n : ℕ) → Labels new.literals name n → Labels (old.literals ++ label_of b ∷ []) name n
    was name n there = Contains-permutation new.literals (old.literals ++ label_of b ∷ []) (record { label = n; name = name })
        (IsPermutation-sym (old.literals ++ label_of b ∷ []) new.literals kept) there

-- A pattern with a star.
pub extends_starred : (old new : PatternIndex) (b : FencePattern) → new.literals ≡ old.literals →
    ((starred : List FencePattern) → HasStarred old.starred starred → HasStarred new.starred (starred ++ b ∷ [])) → ExtendsIndex old new (b ∷ [])
extends_starred old new b literals tried bounds h = record {
  starred = h.starred ++ b ∷ [];
  tried = tried h.starred h.tried;
  forth = λ name n c. elim (claims_parts bounds b name n c) [
    | inl early ↦ elim (h.forth name n early) [
      | inl one ↦ inl (subst (λ ls. Labels ls name n) (sym literals) one)
      | inr other ↦ inr (claims_old h.starred b name n other)
    ]
    | inr here ↦ inr (rw (← here.0) (claims_new h.starred b name here.1))
  ];
  back = λ name n c. elim c [
    | inl one ↦ claims_old bounds b name n (h.back name n (inl (subst (λ ls. Labels ls name n) literals one)))
    | inr other ↦ elim (claims_parts h.starred b name n other) [
      | inl early ↦ claims_old bounds b name n (h.back name n (inr early))
      | inr here ↦ rw (← here.0) (claims_new bounds b name here.1)
    ]
  ];
}

pub extends_by_none : (index : PatternIndex) → ExtendsIndex index index []
extends_by_none index bounds h = rw append-nil h

pub extends_twice : (a b c : PatternIndex) (xs ys : List FencePattern) → ExtendsIndex a b xs → ExtendsIndex b c ys → ExtendsIndex a c (xs ++ ys)
extends_twice a b c xs ys first second bounds h = rw (← append_assoc bounds xs ys) (second (bounds ++ xs) (first bounds h))
