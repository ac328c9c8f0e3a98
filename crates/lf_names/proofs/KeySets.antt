-- A set of keys in which a lookup and an insertion are one step: the position of the key, and
-- whether it is new.
use Rattle.std.proofs.Common.{◌≡◌, ◌<◌, ℕ, Bool, true, false, cond, if◌then◌else◌, not, List, [], ◌∷◌, ◌++◌, length, map, None, Some, position, refl, sym, ap, ◌∙◌, arith}
use Rattle.std.proofs.lemmas.Bool.{false≢true, lt-ltb, le-ltb}
use Rattle.std.proofs.lemmas.List.{length-map, map-append}
use Rattle.std.specs.List.{position_or_len, list_any}
use Rattle.std.specs.Str.{bytes_eq}
use Rattle.lf_names.specs.Names.{position_of}
use Rattle.lf_names.proofs.Keys.{position-keys}

-- The first position in a list that passes is within the list, if some position passes.
within : {K : Type 0} (test : K → Bool) (keys : List K) → list_any test keys ≡ true → position_or_len test keys < length keys
within test [] any = absurd (false≢true any)
within test (key ∷ keys) any = by (test key) refl any (within test keys)
  where
    by : (t : Bool) → test key ≡ t → list_any test (key ∷ keys) ≡ true → (list_any test keys ≡ true → position_or_len test keys < length keys) → position_or_len test (key ∷ keys) < length (key ∷ keys)
    by true is any rest = rw is (omega arith)
    by false is any rest = let later : position_or_len test keys < length keys = rest (rw is at any) in rw is (omega arith)

-- It is the length of the list, if no position passes.
past : {K : Type 0} (test : K → Bool) (keys : List K) → list_any test keys ≡ false → position_or_len test keys ≡ length keys
past test [] none = refl
past test (key ∷ keys) none = by (test key) refl none (past test keys)
  where
    by : (t : Bool) → test key ≡ t → list_any test (key ∷ keys) ≡ false → (list_any test keys ≡ false → position_or_len test keys ≡ length keys) → position_or_len test (key ∷ keys) ≡ length (key ∷ keys)
    by true is none rest = absurd (false≢true (sym (rw is at none)))
    by false is none rest = let later : position_or_len test keys ≡ length keys = rest (rw is at none) in rw is (omega arith)

position-known : {K : Type 0} (test : K → Bool) (keys : List K) → list_any test keys ≡ true → position test keys ≡ Some (position_or_len test keys)
position-known test keys any = ap (λ t. cond t (Some (position_or_len test keys)) None) (lt-ltb _ _ (within test keys any))

position-out : {K : Type 0} (test : K → Bool) (keys : List K) → list_any test keys ≡ false → position test keys ≡ None
position-out test keys none =
    let at : position_or_len test keys ≡ length keys = past test keys none in
    ap (λ t. cond t (Some (position_or_len test keys)) None) (le-ltb (position_or_len test keys) (length keys) (omega arith))

-- A key is new if and only if the set does not have it.
is_in_place : (new known : Bool) → new ≡ not known → new ≡ false → known ≡ true
is_in_place new true is old = refl
is_in_place new false is old = absurd (false≢true (sym old ∙ is))

fresh : (new known : Bool) → new ≡ not known → new ≡ true → known ≡ false
fresh new true is added = absurd (false≢true (sym is ∙ added))
fresh new false is added = refl

module _ {K : Type 0} (bytes : K → List ℕ) where
  -- The position of a key in the set is that of its name.
  pub present-there : (keys : List K) (names : List (List ℕ)) (name : List ℕ) (at : ℕ) (new : Bool) → map bytes keys ≡ names → new ≡ not (list_any (λ k. bytes_eq name (bytes k)) keys) → new ≡ false
      → at ≡ position_or_len (λ k. bytes_eq name (bytes k)) keys → position_of names name ≡ Some at
  present-there keys names name at new view is old place =
      sym (position-keys bytes keys names name view) ∙ position-known (λ k. bytes_eq name (bytes k)) keys (is_in_place new _ is old) ∙ ap Some (sym place)

  pub absent-there : (keys : List K) (names : List (List ℕ)) (name : List ℕ) → map bytes keys ≡ names → list_any (λ k. bytes_eq name (bytes k)) keys ≡ false → position_of names name ≡ None
  absent-there keys names name view none = sym (position-keys bytes keys names name view) ∙ position-out (λ k. bytes_eq name (bytes k)) keys none

  pub new-absent : (keys : List K) (names : List (List ℕ)) (name : List ℕ) (new : Bool) → map bytes keys ≡ names → new ≡ not (list_any (λ k. bytes_eq name (bytes k)) keys) → new ≡ true → position_of names name ≡ None
  new-absent keys names name new view is added = absent-there keys names name view (fresh new _ is added)

  pub new-last : (keys : List K) (names : List (List ℕ)) (name : List ℕ) (at : ℕ) (new : Bool) → map bytes keys ≡ names → new ≡ not (list_any (λ k. bytes_eq name (bytes k)) keys) → new ≡ true
      → at ≡ position_or_len (λ k. bytes_eq name (bytes k)) keys → at ≡ length names
  new-last keys names name at new view is added place =
      place ∙ past (λ k. bytes_eq name (bytes k)) keys (fresh new _ is added) ∙ sym (length-map keys bytes) ∙ ap length view

  -- The names after adding a new key, and after adding one that the set has.
  pub names-new : (keys after : List K) (key : K) (names : List (List ℕ)) (new : Bool) → map bytes keys ≡ names → new ≡ not (list_any (λ k. bytes_eq (bytes key) (bytes k)) keys) → new ≡ true
      → after ≡ (if list_any (λ k. bytes_eq (bytes key) (bytes k)) keys then keys else keys ++ key ∷ []) → map bytes after ≡ names ++ bytes key ∷ []
  names-new keys after key names new view is added made =
      ap (map bytes) (made ∙ ap (λ t. cond t keys (keys ++ key ∷ [])) (fresh new _ is added)) ∙ map-append bytes keys (key ∷ []) ∙ ap (λ ns. ns ++ bytes key ∷ []) view

  pub names-same : (keys after : List K) (key : K) (names : List (List ℕ)) (new : Bool) → map bytes keys ≡ names → new ≡ not (list_any (λ k. bytes_eq (bytes key) (bytes k)) keys) → new ≡ false
      → after ≡ (if list_any (λ k. bytes_eq (bytes key) (bytes k)) keys then keys else keys ++ key ∷ []) → map bytes after ≡ names
  names-same keys after key names new view is old made =
      ap (map bytes) (made ∙ ap (λ t. cond t keys (keys ++ key ∷ [])) (is_in_place new _ is old)) ∙ view
