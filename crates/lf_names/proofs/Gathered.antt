-- The values of a function for the elements of a list, gathered part by part.
use Rattle.std.proofs.Common.{◌≡◌, ◌≢◌, ℕ, zero, suc, ◌<◌, ◌≤◌, Bool, true, false, cond, List, [], ◌∷◌, ◌++◌, Option, None, Some, refl, sym, subst, ◌∙◌, ap, arith}
use Rattle.std.proofs.lemmas.Bool.{ne_eqb, eqb-true, eqb-false}
use Rattle.std.proofs.lemmas.List.Sorted.{IsPermutation-refl, IsPermutation-cons, IsPermutation-middle, IsPermutation-append_left, IsPermutation-trans}
use Rattle.std.specs.List.{cons_option, filter, filter_map}
use Rattle.std.specs.List.Sorted.{IsPermutation}
use Rattle.std.specs.Prelude.{◌==◌}

-- A list with the value of an option in front, if there is one.
module _ {Y : Type 0} where
  option_first : (o : Option Y) (xs ys : List Y) → IsPermutation xs ys → IsPermutation (cons_option o xs) (cons_option o ys)
  option_first None xs ys same = same
  option_first (Some y) xs ys same = IsPermutation-cons y xs ys same

  option_to_front : (o : Option Y) (xs ys : List Y) → IsPermutation (xs ++ cons_option o ys) (cons_option o (xs ++ ys))
  option_to_front None xs ys = IsPermutation-refl (xs ++ ys)
  option_to_front (Some y) xs ys = IsPermutation-middle xs y ys

  option_append : (o : Option Y) (xs ys : List Y) → cons_option o xs ++ ys ≡ cons_option o (xs ++ ys)
  option_append None xs ys = refl
  option_append (Some y) xs ys = refl

-- Functions that agree give the same values for a list.
pub filter_map_same : {X Y : Type 0} (f g : X → Option Y) (xs : List X) → ((x : X) → f x ≡ g x) → filter_map f xs ≡ filter_map g xs
filter_map_same f g [] same = refl
filter_map_same f g (x ∷ xs) same = ap (λ o. cons_option o (filter_map f xs)) (same x) ∙ ap (cons_option (g x)) (filter_map_same f g xs same)

module _ {X Y : Type 0} (part : X → ℕ) (f : ℕ → X → Option Y) where
  -- The values for the elements of the parts below this one, part by part.
  abbrev pub gathered : ℕ → List X → List Y
  gathered zero xs = []
  gathered (suc k) xs = gathered k xs ++ filter_map (f k) (filter (λ x. part x == k) xs)

  nothing_gathered : (n : ℕ) → gathered n [] ≡ []
  nothing_gathered zero = refl
  nothing_gathered (suc k) = ap (λ ys. ys ++ []) (nothing_gathered k)

  -- An element of a later part adds nothing.
  not_yet : (n : ℕ) (x : X) (xs : List X) → n ≤ part x → gathered n (x ∷ xs) ≡ gathered n xs
  not_yet zero x xs later = refl
  not_yet (suc k) x xs later =
      let rest = filter (λ w. part w == k) xs in
      let other : (part x == k) ≡ false = ne_eqb (part x) k (λ (same : part x ≡ k). omega arith) in
      ap (λ t. gathered k (x ∷ xs) ++ filter_map (f k) (cond t (x ∷ rest) rest)) other ∙ ap (λ ys. ys ++ filter_map (f k) rest) (not_yet k x xs (omega arith))

  -- An element of an earlier part adds its value.
  one_more : (n : ℕ) (x : X) (xs : List X) → part x < n → IsPermutation (gathered n (x ∷ xs)) (cons_option (f (part x) x) (gathered n xs))
  one_more zero x xs below = absurd (omega arith)
  one_more (suc k) x xs below = by (part x == k) refl (one_more k x xs)
    where
      rest : List X
      rest = filter (λ w. part w == k) xs

      by : (t : Bool) → (part x == k) ≡ t → (part x < k → IsPermutation (gathered k (x ∷ xs)) (cons_option (f (part x) x) (gathered k xs))) → IsPermutation (gathered k (x ∷ xs) ++ filter_map (f k) (cond t (x ∷ rest) rest)) (cons_option (f (part x) x) (gathered k xs ++ filter_map (f k) rest))
      by true is before =
          let same : part x ≡ k = eqb-true (part x) k is in
          let earlier : gathered k xs ≡ gathered k (x ∷ xs) = sym (not_yet k x xs (omega arith)) in
          subst (λ ys. IsPermutation (ys ++ cons_option (f k x) (filter_map (f k) rest)) (cons_option (f (part x) x) (gathered k xs ++ filter_map (f k) rest))) earlier
          (subst (λ p. IsPermutation (gathered k xs ++ cons_option (f k x) (filter_map (f k) rest)) (cons_option (f p x) (gathered k xs ++ filter_map (f k) rest))) (sym same)
          (option_to_front (f k x) (gathered k xs) (filter_map (f k) rest)))
      by false is before =
          let other : part x ≢ k = eqb-false (part x) k is in
          let earlier : part x < k = omega arith in
          subst (IsPermutation (gathered k (x ∷ xs) ++ filter_map (f k) rest)) (option_append (f (part x) x) (gathered k xs) (filter_map (f k) rest))
          (IsPermutation-append_left (filter_map (f k) rest) (gathered k (x ∷ xs)) (cons_option (f (part x) x) (gathered k xs)) (before earlier))

  -- The values of all parts are those of the elements in their order.
  pub all_gathered : (n : ℕ) (xs : List X) → ((x : X) → part x < n) → IsPermutation (gathered n xs) (filter_map (λ x. f (part x) x) xs)
  all_gathered n [] below = subst (λ ys. IsPermutation ys []) (sym (nothing_gathered n)) (IsPermutation-refl [])
  all_gathered n (x ∷ xs) below =
      IsPermutation-trans (gathered n (x ∷ xs)) (cons_option (f (part x) x) (gathered n xs)) (filter_map (λ w. f (part w) w) (x ∷ xs))
      (one_more n x xs (below x))
      (option_first (f (part x) x) (gathered n xs) (filter_map (λ w. f (part w) w) xs) (all_gathered n xs below))
