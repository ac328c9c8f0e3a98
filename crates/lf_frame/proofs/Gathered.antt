-- A fact about entries holds of the values gathered from them.
use Rattle.std.proofs.Common.{◌≡◌, ◌⊎◌, inl, inr, ℕ, zero, suc, ◌+◌, ◌<◌, ◌≤◌, cond, subst, Bool, true, false, List, [], ◌∷◌, length, map, take, get_or, Option, None, Some, refl, arith}
use Rattle.std.specs.Prelude.{filter, filter_map, flat_map, slice_get, option_map, All, Any, AllPairs, IfSome}
use Rattle.std.proofs.lemmas.Grind.{common_steps}
use Rattle.std.proofs.Math.Seq.{take-length}
use Rattle.std.proofs.lemmas.List.{get_or_default, length-map}
use Rattle.std.proofs.lemmas.List.Filters.{length-filter_more}
use Rattle.std.proofs.lemmas.Option.{none-some}
use Rattle.std.proofs.lemmas.List.Elements.{All-nil, All-cons, All-head, All-tail, All-append}
use Rattle.std.proofs.lemmas.List.Kept.{AllPairs-cons}
use Rattle.lf_frame.specs.Entries.{FirstIs, NoneBreaks}
use Rattle.lf_frame.specs.Loading.{at_place}
use Rattle.lf_frame.specs.Findings.{NameOfFirst}

inside : {A : Type 0} (name_of : A → List ℕ) (xs : List A) (k : ℕ) → k < length xs → None ≡ option_map name_of (slice_get xs k) → ⊥
inside name_of [] k within e = omega arith
inside name_of (x ∷ xs) zero within e = none-some (name_of x) e
inside name_of (x ∷ xs) (suc k) within e = inside name_of xs k (omega arith) e

-- If no name is found, no entry breaks the rule.
pub none_of_name : {A : Type 0} {name_of : A → List ℕ} {breaks : List A → A → Type 0} {entries : List A} → NameOfFirst name_of breaks entries None →
    NoneBreaks breaks entries
none_of_name {A} {name_of} {breaks} {entries} n = by n.place n.first n.name
  where
    by : (place : Option ℕ) → FirstIs breaks entries place → None ≡ option_map name_of (at_place entries place) → NoneBreaks breaks entries
    by None first name = first
    by (Some k) first name = absurd (inside name_of entries k first.within name)

-- No entry that passes the test breaks the rule with an earlier one that passes.
pub pairs_from_none : {A : Type 0} (p : A → Bool) (Q : A → A → Type 0) (entries : List A) →
    NoneBreaks (λ earlier x. (p x ≡ true) × Any (λ e. (p e ≡ true) × Q e x) earlier) entries → AllPairs (λ a b. p a ≡ true → p b ≡ true → Q a b → ⊥) entries
pairs_from_none p Q entries none i j d below within is_a is_b q =
    let early : i < length (take j entries) = grind (arith, common_steps) in
    let there : get_or (take j entries) i (get_or entries i d) ≡ get_or entries i d = grind (arith, common_steps, get_or_default entries i (get_or entries i d) d) in
    none j d within (is_b, (i, get_or entries i d, early, there, (is_a, q)))

-- The values gathered from the entries that pass the test.
pub all_kept : {A B : Type 0} (P : B → Type 0) (f : A → B) (p : A → Bool) (xs : List A) → All (λ x. p x ≡ true → P (f x)) xs → All P (map f (filter p xs))
all_kept P f p [] all = All-nil P
all_kept P f p (x ∷ xs) all = by (p x) refl (All-head (λ x. p x ≡ true → P (f x)) x xs all) (all_kept P f p xs (All-tail (λ x. p x ≡ true → P (f x)) x xs all))
  where
    by : (t : Bool) → p x ≡ t → (p x ≡ true → P (f x)) → All P (map f (filter p xs)) → All P (map f (filter p (x ∷ xs)))
    by true is first rest = rw is (All-cons P (f x) (map f (filter p xs)) (first is) rest)
    by false is first rest = rw is rest

heads : {A : Type 0} (R : A → A → Type 0) (x : A) (xs : List A) → AllPairs R (x ∷ xs) → All (R x) xs
heads R x xs pairs = λ k d within. pairs zero (suc k) d (omega arith) (omega arith)

tails : {A : Type 0} (R : A → A → Type 0) (x : A) (xs : List A) → AllPairs R (x ∷ xs) → AllPairs R xs
tails R x xs pairs = λ i j d below within. pairs (suc i) (suc j) d (omega arith) (omega arith)

pub pairs_kept : {A B : Type 0} (R : B → B → Type 0) (f : A → B) (p : A → Bool) (xs : List A) → AllPairs (λ a b. p a ≡ true → p b ≡ true → R (f a) (f b)) xs →
    AllPairs R (map f (filter p xs))
pairs_kept R f p [] pairs = λ i j d below within. absurd (omega arith)
pairs_kept {A} R f p (x ∷ xs) pairs = by (p x) refl (heads T x xs pairs) (pairs_kept R f p xs (tails T x xs pairs))
  where
    T : A → A → Type 0
    T a b = p a ≡ true → p b ≡ true → R (f a) (f b)

    by : (t : Bool) → p x ≡ t → All (T x) xs → AllPairs R (map f (filter p xs)) → AllPairs R (map f (filter p (x ∷ xs)))
    by true is first rest = rw is (AllPairs-cons R (f x) (map f (filter p xs)) (all_kept (R (f x)) f p xs (λ k d within. first k d within is)) rest)
    by false is first rest = rw is rest

pub all_filter_map : {A B : Type 0} (P : B → Type 0) (h : A → Option B) (xs : List A) → All (λ x. IfSome (h x) P) xs → All P (filter_map h xs)
all_filter_map P h [] all = All-nil P
all_filter_map {A} {B} P h (x ∷ xs) all = by (h x) refl (All-head (λ x. IfSome (h x) P) x xs all) (all_filter_map P h xs (All-tail (λ x. IfSome (h x) P) x xs all))
  where
    by : (t : Option B) → h x ≡ t → IfSome (h x) P → All P (filter_map h xs) → All P (filter_map h (x ∷ xs))
    by None is first rest = rw is rest
    by (Some y) is first rest = rw is (All-cons P y (filter_map h xs) (rw is at first) rest)

pub all_flat_map : {A B : Type 0} (P : B → Type 0) (h : A → List B) (xs : List A) → All (λ x. All P (h x)) xs → All P (flat_map h xs)
all_flat_map P h [] all = All-nil P
all_flat_map P h (x ∷ xs) all = All-append P (h x) (flat_map h xs) (All-head (λ x. All P (h x)) x xs all) (all_flat_map P h xs (All-tail (λ x. All P (h x)) x xs all))

below_limit : (limit m : ℕ) → (limit ≤ m → ⊥) → m < limit
below_limit limit m room =
    let cases : (limit ≤ m) ⊎ (m < limit) = grind arith in
    elim cases [
      | inl full ↦ absurd (room full)
      | inr less ↦ less
    ]

one_more : {A : Type 0} (p : A → Bool) (limit n : ℕ) (d : A) (xs : List A) → NoneBreaks (λ earlier x. (p x ≡ true) × (limit ≤ length (filter p earlier))) xs →
    n < length xs → length (filter p (take n xs)) ≤ limit → length (filter p (take (n + 1) xs)) ≤ limit
one_more p limit n d xs none within so_far = by (p (get_or xs n d)) refl (length-filter_more p xs n d within)
  where
    by : (t : Bool) → p (get_or xs n d) ≡ t → length (filter p (take (n + 1) xs)) ≡ length (filter p (take n xs)) + cond {A = ℕ} (p (get_or xs n d)) 1 0 →
        length (filter p (take (n + 1) xs)) ≤ limit
    by true is more =
        let less : length (filter p (take n xs)) < limit = below_limit limit (length (filter p (take n xs))) (λ full. none n d within (is, full)) in
        let one : cond {A = ℕ} (p (get_or xs n d)) 1 0 ≡ 1 = rw is refl in
        omega (arith, more, one, less)
    by false is more =
        let nothing : cond {A = ℕ} (p (get_or xs n d)) 1 0 ≡ 0 = rw is refl in
        omega (arith, more, nothing, so_far)

few_passed : {A : Type 0} (p : A → Bool) (limit : ℕ) (d : A) (xs : List A) → NoneBreaks (λ earlier x. (p x ≡ true) × (limit ≤ length (filter p earlier))) xs →
    (n : ℕ) → n ≤ length xs → length (filter p (take n xs)) ≤ limit
few_passed p limit d xs none zero within = omega arith
few_passed p limit d xs none (suc n) within =
    let next : n + 1 ≡ suc n = omega arith in
    subst (λ (m : ℕ). length (filter p (take m xs)) ≤ limit) next (one_more p limit n d xs none (omega arith) (few_passed p limit d xs none n (omega arith)))

-- At most `limit` entries pass the test, if no passing entry has that number of passing entries in
-- front of it.
pub few_kept : {A B : Type 0} (f : A → B) (p : A → Bool) (limit : ℕ) (xs : List A) →
    NoneBreaks (λ earlier x. (p x ≡ true) × (limit ≤ length (filter p earlier))) xs → length (map f (filter p xs)) ≤ limit
few_kept f p limit [] none = omega arith
few_kept {A} f p limit (x ∷ xs) none =
    let all : take (length (x ∷ xs)) (x ∷ xs) ≡ x ∷ xs = take-length (x ∷ xs) in
    let most : length (filter p (take (length (x ∷ xs)) (x ∷ xs))) ≤ limit = few_passed p limit x (x ∷ xs) none (length (x ∷ xs)) (omega arith) in
    let long = length-map (filter p (x ∷ xs)) f in
    let few : length (filter p (x ∷ xs)) ≤ limit = subst (λ (ys : List A). length (filter p ys) ≤ limit) all most in
    omega (arith, long, few)
