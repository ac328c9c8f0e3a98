-- The values at a list of keys.
use Rattle.std.proofs.Common.{◌≡◌, ℕ, zero, suc, List, [], ◌∷◌, length, take, drop, Option, Some, None, IsSome, is_some, filter_map, refl, sym, ap, ◌∙◌, true≢false}
use Rattle.std.specs.Prelude.{slice_get}
use Rattle.std.specs.List.{cons_option}
use Rattle.std.proofs.lemmas.Option.{none-some, same_Some}

module _ {T : Type 0} where
  pub value_of : (found : Option T) → IsSome found → (value : T) × (found ≡ Some value)
  value_of None some = absurd (true≢false (sym some))
  value_of (Some value) some = (value, refl)

  pub none_found : (found : Option T) → found ≡ None → IsSome found → ⊥
  none_found found none some = true≢false (sym some ∙ ap is_some none)

  -- The values are unchanged if each key's value is unchanged.
  pub values_same : (look later : ℕ → Option T) (keys : List ℕ) → ((i key : ℕ) → slice_get keys i ≡ Some key → later key ≡ look key) →
      filter_map later keys ≡ filter_map look keys
  values_same look later [] same = refl
  values_same look later (key ∷ keys) same =
      ap (λ (o : Option T). cons_option o (filter_map later keys)) (same zero key refl)
      ∙ ap (λ (xs : List T). cons_option (look key) xs) (values_same look later keys (λ i k at. same (suc i) k at))

  -- Each key has a value.
  abbrev pub AreFound : (ℕ → Option T) → List ℕ → Type 0
  AreFound look keys = (i key : ℕ) → slice_get keys i ≡ Some key → IsSome (look key)

  -- The first key has a value, which is followed by the values of the others.
  pub first_value : (look : ℕ → Option T) (key : ℕ) (keys : List ℕ) (value : T) → look key ≡ Some value →
      filter_map look (key ∷ keys) ≡ value ∷ filter_map look keys
  first_value look key keys value at = ap (λ (o : Option T). cons_option o (filter_map look keys)) at

  -- There are as many values as keys.
  pub length_values : (look : ℕ → Option T) (keys : List ℕ) → AreFound look keys → length (filter_map look keys) ≡ length keys
  length_values look [] found = refl
  length_values look (key ∷ keys) found =
      let first = value_of (look key) (found zero key refl) in
      ap length (first_value look key keys first.0 first.1) ∙ ap suc (length_values look keys (λ i k at. found (suc i) k at))

  -- The value at a position is that of the key there.
  pub value_there : (look : ℕ → Option T) (keys : List ℕ) → AreFound look keys → (i key : ℕ) → slice_get keys i ≡ Some key →
      slice_get (filter_map look keys) i ≡ look key
  value_there look [] found i key at = absurd (none-some key at)
  value_there look (k ∷ keys) found zero key at =
      let first = value_of (look k) (found zero k refl) in
      ap (λ (xs : List T). slice_get xs zero) (first_value look k keys first.0 first.1) ∙ sym first.1 ∙ ap look (same_Some k key at)
  value_there look (k ∷ keys) found (suc i) key at =
      let first = value_of (look k) (found zero k refl) in
      ap (λ (xs : List T). slice_get xs (suc i)) (first_value look k keys first.0 first.1)
      ∙ value_there look keys (λ j l there. found (suc j) l there) i key at

  -- The values of the first keys are the first values.
  pub values_taken : (look : ℕ → Option T) (keys : List ℕ) → AreFound look keys → (n : ℕ) → filter_map look (take n keys) ≡ take n (filter_map look keys)
  values_taken look keys found zero = refl
  values_taken look [] found (suc n) = refl
  values_taken look (key ∷ keys) found (suc n) =
      let first = value_of (look key) (found zero key refl) in
      first_value look key (take n keys) first.0 first.1
      ∙ ap (λ (xs : List T). first.0 ∷ xs) (values_taken look keys (λ i k at. found (suc i) k at) n)
      ∙ sym (ap (take (suc n)) (first_value look key keys first.0 first.1))

  -- Without the first key, the first value is missing.
  pub values_dropped : (look : ℕ → Option T) (keys : List ℕ) → AreFound look keys → filter_map look (drop 1 keys) ≡ drop 1 (filter_map look keys)
  values_dropped look [] found = refl
  values_dropped look (key ∷ keys) found =
      let first = value_of (look key) (found zero key refl) in
      sym (ap (drop 1) (first_value look key keys first.0 first.1))
