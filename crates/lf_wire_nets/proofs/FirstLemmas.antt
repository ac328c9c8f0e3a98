-- The position that is found for a name after an entry is added.
use Rattle.std.proofs.Common.{◌≡◌, ℕ, zero, suc, ◌+◌, ◌<◌, Bool, true, false, cond, List, [], ◌∷◌, ◌++◌, length, Option, Some, None, slice_get, get_or, drop, All, IfSome, find, option_map, ◌≤◌, refl, sym, ap, subst, ◌∙◌, arith}
use Rattle.std.specs.Prelude.{position}
use Rattle.std.specs.List.{position_from}
use Rattle.std.specs.Borrow.{Bor}
use Rattle.std.specs.Option.{option_and_then, option_copied, option_or}
use Rattle.std.specs.Str.{bytes_eq}
use Rattle.std.proofs.lemmas.Grind.{common_steps}
use Rattle.std.proofs.lemmas.Iterator.Adapters.{position_from-zero}
use Rattle.std.proofs.lemmas.Option.{slice_get_within, slice_get-get_or}
use Rattle.std.proofs.lemmas.Slice.Eq.{bytes_eq-Decides}
use Rattle.std.proofs.lemmas.List.{drop_all}
use Rattle.lf_names.specs.Names.{position_of}
use Rattle.lf_names.proofs.Positions.{is_found_there}
use Rattle.lf_wire_nets.specs.declared.first_names.FirstNames.{FirstNames}
use Rattle.lf_wire_nets.specs.FirstNames.{AddsEntry, FindsFirst, HasAllPositions, first_position}

-- The position that is found in these two lists.
abbrev pub found_in : List (List ℕ) → List ℕ → List ℕ → Option ℕ
found_in names positions q = option_and_then (slice_get positions) (position_of names q)

found_by : (names : List (List ℕ)) (positions : List ℕ) (q : List ℕ) (at : Option ℕ) → position_of names q ≡ at → found_in names positions q ≡ option_and_then (slice_get positions) at
found_by names positions q at e = ap (option_and_then (slice_get positions)) e

or_nothing : (o : Option ℕ) → option_or o None ≡ o
or_nothing None = refl
or_nothing (Some n) = refl

get_push : (vs : List ℕ) (v n : ℕ) → n < length vs → slice_get (vs ++ v ∷ []) n ≡ slice_get vs n
get_push [] v n within = absurd (omega arith)
get_push (x ∷ vs) v zero within = refl
get_push (x ∷ vs) v (suc n) within = get_push vs v n (omega arith)

pub get_last : {X : Type 0} (vs : List X) (v : X) → slice_get (vs ++ v ∷ []) (length vs) ≡ Some v
get_last [] v = refl
get_last (x ∷ vs) v = get_last vs v

place_pushed : {X : Type 0} (p : X → Bool) (i : ℕ) (xs : List X) (y : X) → position_from p i (xs ++ y ∷ []) ≡ option_or (position_from p i xs) (cond (p y) (Some (i + length xs)) None)
place_pushed p i [] y = ap (λ k. cond (p y) (Some k) None) (omega arith)
place_pushed p i (x ∷ xs) y = by (p x) (place_pushed p (i + 1) xs y)
  where
    same : i + 1 + length xs ≡ i + suc (length xs)
    same = omega arith

    by : (t : Bool) → position_from p (i + 1) (xs ++ y ∷ []) ≡ option_or (position_from p (i + 1) xs) (cond (p y) (Some (i + 1 + length xs)) None) →
        cond t (Some i) (position_from p (i + 1) (xs ++ y ∷ [])) ≡ option_or (cond t (Some i) (position_from p (i + 1) xs)) (cond (p y) (Some (i + suc (length xs))) None)
    by true e = refl
    by false e = e ∙ ap (λ k. option_or (position_from p (i + 1) xs) (cond (p y) (Some k) None)) same

name_pushed : (names : List (List ℕ)) (y q : List ℕ) → position_of (names ++ y ∷ []) q ≡ option_or (position_of names q) (cond (bytes_eq q y) (Some (length names)) None)
name_pushed names y q =
    position_from-zero (bytes_eq q) (names ++ y ∷ []) ∙ place_pushed (bytes_eq q) 0 names y
    ∙ ap (λ k. option_or (position_from (bytes_eq q) 0 names) (cond (bytes_eq q y) (Some k) None)) (omega arith)
    ∙ ap (λ o. option_or o (cond (bytes_eq q y) (Some (length names)) None)) (sym (position_from-zero (bytes_eq q) names))

stored : (names : List (List ℕ)) (positions : List ℕ) (q : List ℕ) (n : ℕ) → length names ≡ length positions → position_of names q ≡ Some n → n < length positions
stored names positions q n whole e =
    let within : n < length names = slice_get_within names n q (is_found_there names q n e) in
    omega arith

pub new_found : (names : List (List ℕ)) (positions : List ℕ) (y : List ℕ) (v : ℕ) → length names ≡ length positions → (q : List ℕ) →
    found_in (names ++ y ∷ []) (positions ++ v ∷ []) q ≡ option_or (found_in names positions q) (cond (bytes_eq q y) (Some v) None)
new_found names positions y v whole q = by (position_of names q) refl
  where
    last : Option ℕ
    last = cond (bytes_eq q y) (Some v) None

    by : (at : Option ℕ) → position_of names q ≡ at → found_in (names ++ y ∷ []) (positions ++ v ∷ []) q ≡ option_or (found_in names positions q) (cond (bytes_eq q y) (Some v) None)
    by (Some n) e =
        let within : n < length positions = stored names positions q n whole e in
        let pushed : position_of (names ++ y ∷ []) q ≡ Some n = name_pushed names y q ∙ ap (λ o. option_or o (cond (bytes_eq q y) (Some (length names)) None)) e in
        let here : slice_get positions n ≡ Some (get_or positions n v) = slice_get-get_or positions n v within in
        found_by (names ++ y ∷ []) (positions ++ v ∷ []) q (Some n) pushed ∙ get_push positions v n within ∙ here
        ∙ sym (ap (λ o. option_or o (cond (bytes_eq q y) (Some v) None)) (found_by names positions q (Some n) e ∙ here))
    by None e =
        let pushed : position_of (names ++ y ∷ []) q ≡ cond (bytes_eq q y) (Some (length names)) None = name_pushed names y q ∙ ap (λ o. option_or o (cond (bytes_eq q y) (Some (length names)) None)) e in
        found_by (names ++ y ∷ []) (positions ++ v ∷ []) q (cond (bytes_eq q y) (Some (length names)) None) pushed ∙ in_case (bytes_eq q y)
        ∙ sym (ap (λ o. option_or o (cond (bytes_eq q y) (Some v) None)) (found_by names positions q None e))
      where
        in_case : (t : Bool) → option_and_then (slice_get (positions ++ v ∷ [])) (cond t (Some (length names)) None) ≡ cond t (Some v) None
        in_case true = ap (slice_get (positions ++ v ∷ [])) whole ∙ get_last positions v
        in_case false = refl

pub old_found : (names : List (List ℕ)) (positions : List ℕ) (y : List ℕ) (n v : ℕ) → length names ≡ length positions → position_of names y ≡ Some n → (q : List ℕ) →
    found_in names positions q ≡ option_or (found_in names positions q) (cond (bytes_eq q y) (Some v) None)
old_found names positions y n v whole there q = by (bytes_eq q y) refl
  where
    by : (t : Bool) → bytes_eq q y ≡ t → found_in names positions q ≡ option_or (found_in names positions q) (cond t (Some v) None)
    by false e = sym (or_nothing (found_in names positions q))
    by true e =
        let same : q ≡ y = (bytes_eq-Decides q y).0 e in
        let at : position_of names q ≡ Some n = ap (position_of names) same ∙ there in
        let here : slice_get positions n ≡ Some (get_or positions n v) = slice_get-get_or positions n v (stored names positions q n whole at) in
        let found : found_in names positions q ≡ Some (get_or positions n v) = found_by names positions q (Some n) at ∙ here in
        found ∙ sym (ap (λ o. option_or o (Some v)) found)

-- The entry that is added, and then the rest, come to what the first entries of both do.
pub one_entry : (found : Option ℕ) (rest : Option ℕ) (t : Bool) (at : ℕ) → option_or (option_or found (cond t (Some at) None)) rest ≡ option_or found (cond t (Some at) rest)
one_entry (Some n) rest t at = refl
one_entry None rest true at = refl
one_entry None rest false at = refl

-- Holds if the entries so far, and those that remain from this position on, have the positions of
-- the first entries with each name.
pub record FindsSoFar {X : Type 0} (has_name : List ℕ → X → Bool) (entries : List X) (at : ℕ) (t : FirstNames) : Type 0 where
  pub whole : HasAllPositions t
  pub positions : (name : List ℕ) → option_or (first_position t name) (position_from (has_name name) at (drop at entries)) ≡ position_from (has_name name) 0 entries

pub none_so_far : {X : Type 0} (has_name : List ℕ → X → Bool) (entries : List X) (t : FirstNames) → HasAllPositions t → ((name : List ℕ) → first_position t name ≡ None) → FindsSoFar has_name entries 0 t
none_so_far has_name entries t whole nothing = record {
  whole = whole;
  positions = λ name. ap (λ o. option_or o (position_from (has_name name) 0 entries)) (nothing name);
}

pub one_so_far : {X : Type 0} (has_name : List ℕ → X → Bool) (entries : List X) (at : ℕ) (x : X) (own : List ℕ) (old new : FirstNames) →
    drop at entries ≡ x ∷ drop (at + 1) entries → ((name : List ℕ) → has_name name x ≡ bytes_eq name own) →
    FindsSoFar has_name entries at old → AddsEntry old new own at → FindsSoFar has_name entries (at + 1) new
one_so_far has_name entries at x own old new here is before adds = record {
  whole = adds.whole;
  positions = λ name.
      let rest = position_from (has_name name) (at + 1) (drop (at + 1) entries) in
      ap (λ o. option_or o rest) (adds.positions name) ∙ one_entry (first_position old name) rest (bytes_eq name own) at
      ∙ ap (λ t. option_or (first_position old name) (cond t (Some at) rest)) (sym (is name))
      ∙ ap (λ xs. option_or (first_position old name) (position_from (has_name name) at xs)) (sym here) ∙ before.positions name;
}

pub all_so_far : {X : Type 0} (has_name : List ℕ → X → Bool) (entries : List X) (at : ℕ) (t : FirstNames) → length entries ≤ at → FindsSoFar has_name entries at t → FindsFirst has_name entries t
all_so_far has_name entries at t past before = record {
  whole = before.whole;
  positions = λ name. sym (or_nothing (first_position t name)) ∙ ap (λ xs. option_or (first_position t name) (position_from (has_name name) at xs)) (sym (drop_all at entries past)) ∙ before.positions name;
}

-- An entry that has no name changes nothing.
pub none_more : {X : Type 0} (has_name : List ℕ → X → Bool) (entries : List X) (at : ℕ) (x : X) (t : FirstNames) →
    drop at entries ≡ x ∷ drop (at + 1) entries → ((name : List ℕ) → has_name name x ≡ false) → FindsSoFar has_name entries at t → FindsSoFar has_name entries (at + 1) t
none_more has_name entries at x t here is before = record {
  whole = before.whole;
  positions = λ name.
      let rest = position_from (has_name name) (at + 1) (drop (at + 1) entries) in
      ap (λ b. option_or (first_position t name) (cond b (Some at) rest)) (sym (is name))
      ∙ ap (λ xs. option_or (first_position t name) (position_from (has_name name) at xs)) (sym here) ∙ before.positions name;
}

-- The entries from there on begin with it.
pub entries_from : {X : Type 0} (entries : List X) (at : ℕ) (x : X) → at < length entries → x ≡ get_or entries at x → drop at entries ≡ x ∷ drop (at + 1) entries
entries_from entries at x within is = grind (arith, common_steps)

-- ---- the entry at the position that is found

shifted : {X : Type 0} (p : X → Bool) (i : ℕ) (xs : List X) → position_from p (i + 1) xs ≡ option_map suc (position_from p i xs)
shifted p i [] = refl
shifted p i (x ∷ xs) = by (p x) (shifted p (i + 1) xs)
  where
    by : (t : Bool) → position_from p (i + 1 + 1) xs ≡ option_map suc (position_from p (i + 1) xs) → cond t (Some (i + 1)) (position_from p (i + 1 + 1) xs) ≡ option_map suc (cond t (Some i) (position_from p (i + 1) xs))
    by true e = ap (λ (k : ℕ). Some k) (omega arith)
    by false e = e

pub found_entry : {X : Type 0} (p : X → Bool) (xs : List X) → option_and_then (slice_get xs) (position_from p 0 xs) ≡ find p xs
found_entry p [] = refl
found_entry p (x ∷ xs) = by (p x) (found_entry p xs)
  where
    later : (o : Option ℕ) → option_and_then (slice_get (x ∷ xs)) (option_map suc o) ≡ option_and_then (slice_get xs) o
    later None = refl
    later (Some k) = refl

    by : (t : Bool) → option_and_then (slice_get xs) (position_from p 0 xs) ≡ find p xs → option_and_then (slice_get (x ∷ xs)) (cond t (Some 0) (position_from p 1 xs)) ≡ cond t (Some x) (find p xs)
    by true e = refl
    by false e = ap (option_and_then (slice_get (x ∷ xs))) (shifted p 0 xs) ∙ later (position_from p 0 xs) ∙ e

-- The entry that a table finds is the first with the name.
pub first_entry : {X : Type 0} (has_name : List ℕ → X → Bool) (entries : List X) (t : FirstNames) (name : List ℕ) → FindsFirst has_name entries t →
    option_and_then (slice_get entries) (first_position t name) ≡ find (has_name name) entries
first_entry has_name entries t name finds = ap (option_and_then (slice_get entries)) (finds.positions name) ∙ found_entry (has_name name) entries

-- What holds of each entry holds of the one that is found.
pub found_keeps : {X : Type 0} (P : X → Type 0) (p : X → Bool) (xs : List X) (x : X) → All P xs → find p xs ≡ Some x → P x
found_keeps P p [] x all e = absurd cc
found_keeps P p (y ∷ xs) x all e = by (p y) e (found_keeps P p xs x (λ k d within. all (suc k) d (omega arith)))
  where
    by : (t : Bool) → cond t (Some y) (find p xs) ≡ Some x → (find p xs ≡ Some x → P x) → P x
    by true is later =
        let same : y ≡ x = cc in
        subst P same (all 0 y (omega arith))
    by false is later = later is

pub one_found : {X : Type 0} (P : X → Type 0) (p : X → Bool) (xs : List X) (o : Option (Bor X)) → option_copied o ≡ find p xs → All P xs → IfSome o (λ b. P b.now)
one_found P p xs None e all = tt
one_found P p xs (Some b) e all = found_keeps P p xs b.now all (sym e)

-- A position that is found is one of the list.
pub placed_within : {X : Type 0} (p : X → Bool) (i : ℕ) (xs : List X) (n : ℕ) → position_from p i xs ≡ Some n → n < i + length xs
placed_within p i [] n e = absurd cc
placed_within p i (x ∷ xs) n e = by (p x) e (placed_within p (i + 1) xs n)
  where
    by : (t : Bool) → cond t (Some i) (position_from p (i + 1) xs) ≡ Some n → (position_from p (i + 1) xs ≡ Some n → n < i + 1 + length xs) → n < i + length (x ∷ xs)
    by true is later =
        let same : i ≡ n = cc in
        omega arith
    by false is later =
        let below : n < i + 1 + length xs = later is in
        omega arith

-- The first entry of a table is at a position of the list.
pub first_within : {X : Type 0} (has_name : List ℕ → X → Bool) (entries : List X) (t : FirstNames) (name : List ℕ) → FindsFirst has_name entries t →
    IfSome (first_position t name) (λ number. number < length entries)
first_within has_name entries t name finds = by (first_position t name) (finds.positions name)
  where
    by : (o : Option ℕ) → o ≡ position_from (has_name name) 0 entries → IfSome o (λ number. number < length entries)
    by None e = tt
    by (Some n) e =
        let within : n < 0 + length entries = placed_within (has_name name) 0 entries n (sym e) in
        omega arith

pub first_is : {X : Type 0} (has_name : List ℕ → X → Bool) (entries : List X) (t : FirstNames) (name : List ℕ) → FindsFirst has_name entries t →
    first_position t name ≡ position (has_name name) entries
first_is has_name entries t name finds = finds.positions name ∙ sym (position_from-zero (has_name name) entries)
