-- Two lists whose elements are related pair by pair.
use Rattle.std.proofs.Common.{◌≡◌, ℕ, zero, suc, ◌+◌, List, [], ◌∷◌, Bool, cond, length, map, Option, Some, None, refl, ap, sym, ◌∙◌, count_by, filter_map}
use Rattle.std.specs.Prelude.{position, slice_get, slice_set, All}
use Rattle.std.specs.List.{AllZip, position_from, cons_option}
use Rattle.std.proofs.lemmas.Iterator.Adapters.{position_from-zero}
use Rattle.std.proofs.lemmas.List.Elements.{All-nil, All-cons}
use Rattle.std.proofs.lemmas.List.Sums.{sum_by-cons}

-- both options are None, or both have values that are related
abbrev pub OptionZip : {A B : Type 0} → (A → B → Type 0) → Option A → Option B → Type 0
OptionZip R None None = Unit {0}
OptionZip R None (Some y) = ⊥
OptionZip R (Some x) None = ⊥
OptionZip R (Some x) (Some y) = R x y

module _ {A B : Type 0} (R : A → B → Type 0) where
  pub zip_length : (xs : List A) (ys : List B) → AllZip R xs ys → length xs ≡ length ys
  zip_length [] [] z = refl
  zip_length [] (y ∷ ys) z = absurd z
  zip_length (x ∷ xs) [] z = absurd z
  zip_length (x ∷ xs) (y ∷ ys) z = ap suc (zip_length xs ys z.1)

  pub zip_get : (xs : List A) (ys : List B) → AllZip R xs ys → (n : ℕ) → OptionZip R (slice_get xs n) (slice_get ys n)
  zip_get [] [] z n = tt
  zip_get [] (y ∷ ys) z n = absurd z
  zip_get (x ∷ xs) [] z n = absurd z
  zip_get (x ∷ xs) (y ∷ ys) z zero = z.0
  zip_get (x ∷ xs) (y ∷ ys) z (suc n) = zip_get xs ys z.1 n

  pub zip_set : (xs : List A) (ys : List B) (n : ℕ) (x : A) (y : B) → AllZip R xs ys → R x y → AllZip R (slice_set xs n x) (slice_set ys n y)
  zip_set [] [] n x y z r = tt
  zip_set [] (d ∷ ys) n x y z r = absurd z
  zip_set (c ∷ xs) [] n x y z r = absurd z
  zip_set (c ∷ xs) (d ∷ ys) zero x y z r = (r, z.1)
  zip_set (c ∷ xs) (d ∷ ys) (suc n) x y z r = (z.0, zip_set xs ys n x y z.1 r)

  pub zip_map : {C D : Type 0} (S : C → D → Type 0) (h : A → C) (k : B → D) → ((x : A) (y : B) → R x y → S (h x) (k y))
      → (xs : List A) (ys : List B) → AllZip R xs ys → AllZip S (map h xs) (map k ys)
  zip_map S h k each [] [] z = tt
  zip_map S h k each [] (y ∷ ys) z = absurd z
  zip_map S h k each (x ∷ xs) [] z = absurd z
  zip_map S h k each (x ∷ xs) (y ∷ ys) z = (each x y z.0, zip_map S h k each xs ys z.1)

  pub zip_same : {C : Type 0} (h : A → C) (k : B → C) → ((x : A) (y : B) → R x y → h x ≡ k y)
      → (xs : List A) (ys : List B) → AllZip R xs ys → map h xs ≡ map k ys
  zip_same h k each [] [] z = refl
  zip_same h k each [] (y ∷ ys) z = absurd z
  zip_same h k each (x ∷ xs) [] z = absurd z
  zip_same {C} h k each (x ∷ xs) (y ∷ ys) z =
      ap (λ (c : C). c ∷ map h xs) (each x y z.0) ∙ ap (λ (cs : List C). k y ∷ cs) (zip_same h k each xs ys z.1)

  from_same : (p : A → Bool) (q : B → Bool) → ((x : A) (y : B) → R x y → p x ≡ q y)
      → (i : ℕ) (xs : List A) (ys : List B) → AllZip R xs ys → position_from p i xs ≡ position_from q i ys
  from_same p q each i [] [] z = refl
  from_same p q each i [] (y ∷ ys) z = absurd z
  from_same p q each i (x ∷ xs) [] z = absurd z
  from_same p q each i (x ∷ xs) (y ∷ ys) z =
      ap (λ (b : Bool). cond b (Some i) (position_from p (i + 1) xs)) (each x y z.0)
      ∙ ap (λ (o : Option ℕ). cond (q y) (Some i) o) (from_same p q each (i + 1) xs ys z.1)

  -- the position of the first element that passes a test
  pub zip_position : (p : A → Bool) (q : B → Bool) → ((x : A) (y : B) → R x y → p x ≡ q y)
      → (xs : List A) (ys : List B) → AllZip R xs ys → position p xs ≡ position q ys
  zip_position p q each xs ys z = position_from-zero p xs ∙ from_same p q each 0 xs ys z ∙ sym (position_from-zero q ys)

  -- the number of elements that pass a test
  pub zip_count : (p : A → Bool) (q : B → Bool) → ((x : A) (y : B) → R x y → p x ≡ q y)
      → (xs : List A) (ys : List B) → AllZip R xs ys → count_by p xs ≡ count_by q ys
  zip_count p q each [] [] z = refl
  zip_count p q each [] (y ∷ ys) z = absurd z
  zip_count p q each (x ∷ xs) [] z = absurd z
  zip_count p q each (x ∷ xs) (y ∷ ys) z =
      sum_by-cons (λ c. cond (p c) 1 0) x xs
      ∙ ap (λ (b : Bool). cond b 1 0 + count_by p xs) (each x y z.0)
      ∙ ap (λ (n : ℕ). cond (q y) 1 0 + n) (zip_count p q each xs ys z.1)
      ∙ sym (sum_by-cons (λ d. cond (q d) 1 0) y ys)

  pub zip_weaker : (S : A → B → Type 0) → ((x : A) (y : B) → R x y → S x y) → (xs : List A) (ys : List B) → AllZip R xs ys → AllZip S xs ys
  zip_weaker S each [] [] z = tt
  zip_weaker S each [] (y ∷ ys) z = absurd z
  zip_weaker S each (x ∷ xs) [] z = absurd z
  zip_weaker S each (x ∷ xs) (y ∷ ys) z = (each x y z.0, zip_weaker S each xs ys z.1)

  -- a fact on the first element of each related pair
  pub zip_all : (P : A → Type 0) → ((x : A) (y : B) → R x y → P x) → (xs : List A) (ys : List B) → AllZip R xs ys → All P xs
  zip_all P each [] [] z = All-nil P
  zip_all P each [] (y ∷ ys) z = absurd z
  zip_all P each (x ∷ xs) [] z = absurd z
  zip_all P each (x ∷ xs) (y ∷ ys) z = All-cons P x xs (each x y z.0) (zip_all P each xs ys z.1)

-- functions that agree filter a list to the same one
pub filter_map_agree : {X Y : Type 0} (h k : X → Option Y) → ((x : X) → h x ≡ k x) → (xs : List X) → filter_map h xs ≡ filter_map k xs
filter_map_agree h k each [] = refl
filter_map_agree {Y = Y} h k each (x ∷ xs) =
    ap (λ (o : Option Y). cons_option o (filter_map h xs)) (each x) ∙ ap (λ (ys : List Y). cons_option (k x) ys) (filter_map_agree h k each xs)
