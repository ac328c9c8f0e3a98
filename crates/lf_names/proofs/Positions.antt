-- The position of a name in a list of names, as plain facts. A caller's proof may cite these.
use Rattle.std.proofs.Common.{◌≡◌, ◌≢◌, ℕ, zero, suc, ◌<◌, Bool, true, false, cond, nat_lt, get_or, List, [], ◌∷◌, length, IfSome, IfNone, AllPairs, Contains, Option, None, Some, slice_get, refl, sym, ap, ◌∙◌, arith}
use Rattle.std.proofs.lemmas.Bool.{false≢true, lt-ltb}
use Rattle.std.proofs.lemmas.List.Quantifiers.{position-Some}
use Rattle.std.proofs.lemmas.Option.{slice_get-get_or, slice_get_within, get_or_from_slice_get}
use Rattle.std.proofs.lemmas.Slice.Eq.{bytes_eq-Decides}
use Rattle.std.proofs.lemmas.List.Sums.{position_or_len_is}
use Rattle.std.specs.List.{position_or_len}
use Rattle.std.specs.Str.{bytes_eq}
use Rattle.lf_names.specs.Names.{position_of}

-- The name is at its position.
pub is_found_there : (names : List (List ℕ)) (name : List ℕ) (at : ℕ) → position_of names name ≡ Some at → slice_get names at ≡ Some name
is_found_there names name at e =
    let found = position-Some (bytes_eq name) names at [] e in
    let same : name ≡ get_or names at [] = (bytes_eq-Decides name (get_or names at [])).0 found.1 in
    slice_get-get_or names at [] found.0 ∙ ap Some (sym same)

-- A test that some name passes finds a position.
place_within : (test : List ℕ → Bool) (names : List (List ℕ)) (k : ℕ) (d : List ℕ) → k < length names → test (get_or names k d) ≡ true → position_or_len test names < length names
place_within test [] k d within passes = absurd (omega arith)
place_within test (name ∷ names) k d within passes = by (test name) refl k within passes (λ k. place_within test names k d)
  where
    by : (t : Bool) → test name ≡ t → (k : ℕ) → k < length (name ∷ names) → test (get_or (name ∷ names) k d) ≡ true → ((k : ℕ) → k < length names → test (get_or names k d) ≡ true → position_or_len test names < length names) → position_or_len test (name ∷ names) < length (name ∷ names)
    by true e k w p rest = rw e (omega arith)
    by false e zero w p rest = absurd (false≢true (sym e ∙ p))
    by false e (suc k) w p rest = let below : position_or_len test names < length names = rest k (omega arith) p in rw e (omega arith)

-- A name without a position is not in the list.
pub has_no_place : (names : List (List ℕ)) (name : List ℕ) → position_of names name ≡ None → Contains names name → ⊥
has_no_place names name e there =
    let passes : bytes_eq name (get_or names there.0 name) ≡ true = (bytes_eq-Decides name (get_or names there.0 name)).1 (sym there.2) in
    let within : position_or_len (bytes_eq name) names < length names = place_within (bytes_eq name) names there.0 name there.1 passes in
    let test : nat_lt (position_or_len (bytes_eq name) names) (length names) ≡ true = lt-ltb _ _ within in
    let some : position_of names name ≡ Some (position_or_len (bytes_eq name) names) = ap (λ t. cond t (Some (position_or_len (bytes_eq name) names)) None) test in
    cc

-- If the names differ, the index of a name is its position.
pub found_there : (names : List (List ℕ)) (name : List ℕ) (at : ℕ) → AllPairs (λ earlier later. earlier ≢ later) names → slice_get names at ≡ Some name → position_of names name ≡ Some at
found_there names name at distinct e =
    let within : at < length names = slice_get_within names at name e in
    let here : get_or names at [] ≡ name = get_or_from_slice_get names at name [] e in
    let place : position_or_len (bytes_eq name) names ≡ at = position_or_len_is (bytes_eq name) names at [] (omega arith)
    (λ k below. earlier k below within (bytes_eq name (get_or names k [])) refl here)
    (λ _. (bytes_eq-Decides name (get_or names at [])).1 (sym here)) in
    let test : nat_lt at (length names) ≡ true = lt-ltb _ _ within in
    ap (λ k. cond (nat_lt k (length names)) (Some k) None) place ∙ ap (λ t. cond t (Some at) None) test
  where
    earlier : (k : ℕ) → k < at → at < length names → (t : Bool) → bytes_eq name (get_or names k []) ≡ t → get_or names at [] ≡ name → bytes_eq name (get_or names k []) ≡ false
    earlier k below within true e here = absurd (distinct k at [] below within (sym ((bytes_eq-Decides name (get_or names k [])).0 e) ∙ sym here))
    earlier k below within false e here = e

-- The result of a lookup, as plain facts.
pub found : (names : List (List ℕ)) (name : List ℕ) (answer : Option ℕ) → answer ≡ position_of names name → IfSome answer (λ at. slice_get names at ≡ Some name)
found names name (Some at) e = is_found_there names name at (sym e)
found names name None e = tt

pub absent : (names : List (List ℕ)) (name : List ℕ) (answer : Option ℕ) → answer ≡ position_of names name → IfNone answer (¬ Contains names name)
absent names name (Some at) e = tt
absent names name None e = has_no_place names name (sym e)
