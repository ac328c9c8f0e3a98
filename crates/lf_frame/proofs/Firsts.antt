-- A loop that looks for the first entry that breaks a rule.
use Rattle.std.proofs.Common.{◌≡◌, ℕ, ◌+◌, ◌<◌, ◌≤◌, ◌⊎◌, inl, inr, ◌↔◌, Bool, true, false, Option, None, Some, refl, List, length, get_or, take, ◌∙◌, arith}
use Rattle.std.proofs.lemmas.List.{get_or_default}
use Rattle.std.specs.Prelude.{MatchOption, IsTrue}
use Rattle.std.proofs.lemmas.Bool.{false≢true}
use Rattle.lf_frame.specs.Entries.{IsFirst, FirstIs, first_counted}

-- No entry below n breaks the rule.
abbrev pub NoneBelow : {A : Type 0} → (List A → A → Type 0) → List A → ℕ → Type 0
NoneBelow {A} breaks entries n = (k : ℕ) (d : A) → k < n → breaks (take k entries) (get_or entries k d) → ⊥

pub first_found : {A : Type 0} (breaks : List A → A → Type 0) (entries : List A) (n : ℕ) (x : A) → n < length entries → x ≡ get_or entries n x →
    breaks (take n entries) x → NoneBelow breaks entries n → IsFirst breaks entries n
first_found breaks entries n x within is broken before = record {
  within = within;
  breaking = λ d. let same : x ≡ get_or entries n d = is ∙ get_or_default entries n x d within in rw (← same) broken;
  none_before = before;
}

pub none_more : {A : Type 0} (breaks : List A → A → Type 0) (entries : List A) (n : ℕ) (x : A) → n < length entries → x ≡ get_or entries n x →
    (breaks (take n entries) x → ⊥) → NoneBelow breaks entries n → NoneBelow breaks entries (n + 1)
none_more breaks entries n x within is sound before k d below broken =
    let cases : (k < n) ⊎ (k ≡ n) = grind arith in
    elim cases [
      | inl less ↦ before k d less broken
      | inr last ↦
          let same : x ≡ get_or entries n d = is ∙ get_or_default entries n x d within in
          sound (rw (last, ← same) at broken)
    ]

-- The first of the entries below n that breaks the rule, if any.
abbrev pub FoundBelow : {A : Type 0} → (List A → A → Type 0) → List A → ℕ → Option ℕ → Type 0
FoundBelow breaks entries n found = MatchOption found (NoneBelow breaks entries n) (IsFirst breaks entries)

pub found_more : {A : Type 0} (breaks : List A → A → Type 0) (entries : List A) (n : ℕ) (x : A) (found : Option ℕ) (counts : Bool) → n < length entries →
    x ≡ get_or entries n x →
    (IsTrue counts ↔ breaks (take n entries) x) → FoundBelow breaks entries n found → FoundBelow breaks entries (n + 1) (first_counted found n counts)
found_more breaks entries n x (Some k) counts within is test first = first
found_more breaks entries n x None true within is test none = first_found breaks entries n x within is (test.0 refl) none
found_more breaks entries n x None false within is test none = none_more breaks entries n x within is (λ broken. false≢true (test.1 broken)) none

pub found_all : {A : Type 0} (breaks : List A → A → Type 0) (entries : List A) (n : ℕ) (found : Option ℕ) → length entries ≤ n →
    FoundBelow breaks entries n found → FirstIs breaks entries found
found_all breaks entries n (Some k) past first = first
found_all breaks entries n None past none = λ k d within. none k d (omega arith)
