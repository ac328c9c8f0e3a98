-- The keys of a table, compared with the names that contracts see.
use Rattle.std.proofs.Common.{◌≡◌, ◌≢◌, ℕ, ◌+◌, Bool, true, false, cond, if◌then◌else◌, nat_lt, List, [], ◌∷◌, ◌++◌, length, map, AllPairs, None, Some, position, refl, sym, ap, subst, ◌∙◌}
use Rattle.std.proofs.lemmas.List.{length-map, map-append}
use Rattle.std.proofs.lemmas.List.Elements.{All-head, All-tail}
use Rattle.std.proofs.lemmas.Map.Made.{AllPairs-from_IsDistinct}
use Rattle.std.proofs.lemmas.Slice.Eq.{bytes_eq-Decides}
use Rattle.std.specs.List.{position_or_len, list_any, AllByRecursion, IsDistinct}
use Rattle.std.specs.Prelude.{All}
use Rattle.std.specs.Str.{bytes_eq}
use Rattle.lf_names.specs.Names.{position_of}

module _ {K : Type 0} (bytes : K → List ℕ) where
  place-cons : (test : List ℕ → Bool) (key : K) (keys : List K) → position_or_len (λ k. test (bytes k)) keys ≡ position_or_len test (map bytes keys) → (found : Bool) → test (bytes key) ≡ found → position_or_len (λ k. test (bytes k)) (key ∷ keys) ≡ position_or_len test (map bytes (key ∷ keys))
  place-cons test key keys rest true is = rw is refl
  place-cons test key keys rest false is = rw is (ap (λ n. 1 + n) rest)

  place-map : (test : List ℕ → Bool) (keys : List K) → position_or_len (λ k. test (bytes k)) keys ≡ position_or_len test (map bytes keys)
  place-map test [] = refl
  place-map test (key ∷ keys) = place-cons test key keys (place-map test keys) (test (bytes key)) refl

  -- The position of a name among the names is that of its key among the keys.
  pub position-keys : (keys : List K) (names : List (List ℕ)) (name : List ℕ) → map bytes keys ≡ names → position (λ k. bytes_eq name (bytes k)) keys ≡ position_of names name
  position-keys keys names name view =
      let many : length keys ≡ length (map bytes keys) = simp length-map in
      ap (λ n. cond (nat_lt n (length keys)) (Some n) None) (place-map (bytes_eq name) keys)
      ∙ ap (λ n. cond (nat_lt (position_or_len (bytes_eq name) (map bytes keys)) n) (Some (position_or_len (bytes_eq name) (map bytes keys))) None) many
      ∙ ap (λ ns. position_of ns name) view

  none-passes : (keys : List K) (name : List ℕ) → All (λ n. n ≢ name) (map bytes keys) → false ≡ list_any (λ k. bytes_eq name (bytes k)) keys
  none-passes [] name apart = refl
  none-passes (key ∷ keys) name apart = by (bytes_eq name (bytes key)) refl (none-passes keys name (All-tail (λ n. n ≢ name) (bytes key) (map bytes keys) apart))
    where
      by : (t : Bool) → bytes_eq name (bytes key) ≡ t → false ≡ list_any (λ k. bytes_eq name (bytes k)) keys → false ≡ list_any (λ k. bytes_eq name (bytes k)) (key ∷ keys)
      by true is rest = absurd (All-head (λ n. n ≢ name) (bytes key) (map bytes keys) apart (sym ((bytes_eq-Decides name (bytes key)).0 is)))
      by false is rest = rw is rest

  -- A name that differs from all others has no key.
  pub no-key : (keys : List K) (names : List (List ℕ)) (name : List ℕ) → map bytes keys ≡ names → All (λ n. n ≢ name) names → false ≡ list_any (λ k. bytes_eq name (bytes k)) keys
  no-key keys names name view apart = none-passes keys name (subst (All (λ n. n ≢ name)) (sym view) apart)

  -- A new key puts its name after the others.
  pub names-push : (keys after : List K) (key : K) (names : List (List ℕ)) (name : List ℕ) → map bytes keys ≡ names → bytes key ≡ name
      → false ≡ list_any (λ k. bytes_eq name (bytes k)) keys → after ≡ (if list_any (λ k. bytes_eq (bytes key) (bytes k)) keys then keys else keys ++ key ∷ [])
      → map bytes after ≡ names ++ name ∷ []
  names-push keys after key names name view copy absent is =
      let none : list_any (λ k. bytes_eq (bytes key) (bytes k)) keys ≡ false = ap (λ t. list_any (λ k. bytes_eq t (bytes k)) keys) copy ∙ sym absent in
      let last : after ≡ keys ++ key ∷ [] = is ∙ ap (λ t. cond t keys (keys ++ key ∷ [])) none in
      ap (map bytes) last ∙ map-append bytes keys (key ∷ []) ∙ ap (λ ns. ns ++ bytes key ∷ []) view ∙ ap (λ n. names ++ n ∷ []) copy

  differ-map : (key : K) (keys : List K) → AllByRecursion (λ k. bytes_eq (bytes key) (bytes k) ≡ false) keys → AllByRecursion (λ n. bytes_eq (bytes key) n ≡ false) (map bytes keys)
  differ-map key [] h = tt
  differ-map key (k ∷ keys) h = (h.0, differ-map key keys h.1)

  distinct-map : (keys : List K) → IsDistinct (λ a b. bytes_eq (bytes a) (bytes b)) keys → IsDistinct bytes_eq (map bytes keys)
  unfolding IsDistinct
  distinct-map [] h = tt
  distinct-map (key ∷ keys) h = (differ-map key keys h.0, distinct-map keys h.1)

  -- The names of distinct keys differ.
  pub names_differ : (keys : List K) (names : List (List ℕ)) → map bytes keys ≡ names → IsDistinct (λ a b. bytes_eq (bytes a) (bytes b)) keys → AllPairs (λ name later. name ≢ later) names
  names_differ keys names view distinct =
      subst (λ ns. AllPairs (λ name later. name ≢ later) ns) view (AllPairs-from_IsDistinct bytes_eq-Decides (map bytes keys) (distinct-map keys distinct))
