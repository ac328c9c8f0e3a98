-- The place of a name in a list of names, and its value in a map, after one name is added.
use Rattle.std.proofs.Common.{◌≡◌, ◌≢◌, ℕ, zero, suc, ◌+◌, ◌<◌, ◌≤◌, Bool, true, false, cond, nat_lt, eqb, List, [], ◌∷◌, ◌++◌, length, set, Option, Some, None, slice_get, refl, sym, ◌∙◌, ap, add-zero, arith}
use Rattle.std.specs.Prelude.{position}
use Rattle.std.specs.List.{position_or_len}
use Rattle.std.specs.Str.{bytes_eq}
use Rattle.std.specs.Option.{option_and_then}
use Rattle.std.proofs.lemmas.Bool.{false≢true, lt-ltb, ltb-true, ltb-false, le-ltb, eq-eqb, ne_eqb}
use Rattle.std.proofs.lemmas.List.{length_push}
use Rattle.std.proofs.lemmas.List.Sums.{prefix_len-le-length}
use Rattle.std.proofs.lemmas.List.Folds.{position_or_len_push}
use Rattle.std.proofs.lemmas.Option.{slice_get_within}
use Rattle.std.proofs.lemmas.Slice.Eq.{bytes_eq-Decides}
use Rattle.lf_names.specs.Names.{position_of}
use Rattle.lf_names.proofs.Positions.{is_found_there}
use Rattle.lf_frame.specs.declared.name_map.NameMap.{NameMap}
use Rattle.lf_frame.specs.NameMaps.{value_of_name, HasAllValues, SetsValue}
use Rattle.lf_frame.specs.Claims.{NumbersNames, NumbersOneMore}

-- A position is a place in the list. Without a position the place is its length.
data Place (p : List ℕ → Bool) (xs : List (List ℕ)) : Type 0 where
  found : position p xs ≡ Some (position_or_len p xs) → position_or_len p xs < length xs → Place p xs
  missing : position p xs ≡ None → position_or_len p xs ≡ length xs → Place p xs

place : (p : List ℕ → Bool) (xs : List (List ℕ)) → Place p xs
place p xs = by (nat_lt (position_or_len p xs) (length xs)) refl
  where
    by : (t : Bool) → nat_lt (position_or_len p xs) (length xs) ≡ t → Place p xs
    by true e = found (ap (λ s. cond s (Some (position_or_len p xs)) None) e) (ltb-true _ _ e)
    by false e =
        let past : length xs ≤ position_or_len p xs = ltb-false _ _ e in
        let most : position_or_len p xs ≤ length xs = prefix_len-le-length _ xs in
        missing (ap (λ s. cond s (Some (position_or_len p xs)) None) e) (omega arith)

position_at : (p : List ℕ → Bool) (xs : List (List ℕ)) (n : ℕ) → position_or_len p xs ≡ n → n < length xs → position p xs ≡ Some n
position_at p xs n e within = ap (λ k. cond (nat_lt k (length xs)) (Some k) None) e ∙ ap (λ s. cond s (Some n) None) (lt-ltb _ _ within)

position_past : (p : List ℕ → Bool) (xs : List (List ℕ)) (n : ℕ) → position_or_len p xs ≡ n → length xs ≤ n → position p xs ≡ None
position_past p xs n e past = ap (λ k. cond (nat_lt k (length xs)) (Some k) None) e ∙ ap (λ s. cond s (Some n) None) (le-ltb _ _ past)

-- The place of a name after another name is appended.
stays : (xs : List (List ℕ)) (y q : List ℕ) (n : ℕ) → position_of xs q ≡ Some n → position_of (xs ++ y ∷ []) q ≡ Some n
stays xs y q n e = by (place (bytes_eq q) xs)
  where
    by : Place (bytes_eq q) xs → position_of (xs ++ y ∷ []) q ≡ Some n
    by (found is within) =
        let at : position_or_len (bytes_eq q) xs ≡ n = cc in
        let test : eqb (position_or_len (bytes_eq q) xs) (length xs) ≡ false = ne_eqb _ _ (omega arith) in
        let push : position_or_len (bytes_eq q) (xs ++ y ∷ []) ≡ position_or_len (bytes_eq q) xs =
        position_or_len_push (bytes_eq q) xs y ∙ ap (λ t. cond t (length xs + cond (bytes_eq q y) 0 1) (position_or_len (bytes_eq q) xs)) test in
        position_at (bytes_eq q) (xs ++ y ∷ []) n (push ∙ at) (omega (arith, length_push xs y))
    by (missing is at) = cc

at_end : (xs : List (List ℕ)) (y q : List ℕ) (t : Bool) → position_of xs q ≡ None → bytes_eq q y ≡ t →
    position_or_len (bytes_eq q) (xs ++ y ∷ []) ≡ length xs + cond t 0 1
at_end xs y q t e same = by (place (bytes_eq q) xs)
  where
    by : Place (bytes_eq q) xs → position_or_len (bytes_eq q) (xs ++ y ∷ []) ≡ length xs + cond t 0 1
    by (found is within) = cc
    by (missing is at) =
        let test : eqb (position_or_len (bytes_eq q) xs) (length xs) ≡ true = eq-eqb _ _ at in
        position_or_len_push (bytes_eq q) xs y ∙ ap (λ s. cond s (length xs + cond (bytes_eq q y) 0 1) (position_or_len (bytes_eq q) xs)) test
        ∙ ap (λ s. length xs + cond s 0 1) same

goes_last : (xs : List (List ℕ)) (q : List ℕ) → position_of xs q ≡ None → position_of (xs ++ q ∷ []) q ≡ Some (length xs)
goes_last xs q e = position_at (bytes_eq q) (xs ++ q ∷ []) (length xs) (at_end xs q q true e ((bytes_eq-Decides q q).1 refl) ∙ add-zero (length xs)) (omega (arith, length_push xs q))

differs : (a b : List ℕ) → a ≢ b → bytes_eq a b ≡ false
differs a b apart = by (bytes_eq a b) refl
  where
    by : (t : Bool) → bytes_eq a b ≡ t → bytes_eq a b ≡ false
    by true e = absurd (apart ((bytes_eq-Decides a b).0 e))
    by false e = e

stays_out : (xs : List (List ℕ)) (y q : List ℕ) → q ≢ y → position_of xs q ≡ None → position_of (xs ++ y ∷ []) q ≡ None
stays_out xs y q apart e = position_past (bytes_eq q) (xs ++ y ∷ []) (length xs + 1) (at_end xs y q false e (differs q y apart)) (omega (arith, length_push xs y))

-- A list of values with one more value, or with one changed.
pub get_push : {V : Type 0} (vs : List V) (v : V) (n : ℕ) → n < length vs → slice_get (vs ++ v ∷ []) n ≡ slice_get vs n
get_push [] v n within = absurd (omega arith)
get_push (x ∷ vs) v zero within = refl
get_push (x ∷ vs) v (suc n) within = get_push vs v n (omega arith)

pub get_last : {V : Type 0} (vs : List V) (v : V) → slice_get (vs ++ v ∷ []) (length vs) ≡ Some v
get_last [] v = refl
get_last (x ∷ vs) v = get_last vs v

pub get_set : {V : Type 0} (vs : List V) (n : ℕ) (v : V) → n < length vs → slice_get (set vs n v) n ≡ Some v
get_set [] n v within = absurd (omega arith)
get_set (x ∷ vs) zero v within = refl
get_set (x ∷ vs) (suc n) v within = get_set vs n v (omega arith)

pub get_set_other : {V : Type 0} (vs : List V) (n m : ℕ) (v : V) → m ≢ n → slice_get (set vs n v) m ≡ slice_get vs m
get_set_other [] n m v apart = refl
get_set_other (x ∷ vs) zero zero v apart = absurd (apart refl)
get_set_other (x ∷ vs) zero (suc m) v apart = refl
get_set_other (x ∷ vs) (suc n) zero v apart = refl
get_set_other (x ∷ vs) (suc n) (suc m) v apart = get_set_other vs n m v (λ e. apart (ap suc e))

-- The value of a name.
abbrev pub value_at : {V : Type 0} → List (List ℕ) → List V → List ℕ → Option V
value_at names vs q = option_and_then (slice_get vs) (position_of names q)

value_by : {V : Type 0} (names : List (List ℕ)) (vs : List V) (q : List ℕ) (at : Option ℕ) → position_of names q ≡ at →
    value_at names vs q ≡ option_and_then (slice_get vs) at
value_by names vs q at e = ap (option_and_then (slice_get vs)) e

pub new_there : {V : Type 0} (names : List (List ℕ)) (vs : List V) (q : List ℕ) (v : V) → length names ≡ length vs → position_of names q ≡ None →
    value_at (names ++ q ∷ []) (vs ++ v ∷ []) q ≡ Some v
new_there names vs q v whole e = value_by (names ++ q ∷ []) (vs ++ v ∷ []) q (Some (length names)) (goes_last names q e) ∙ ap (slice_get (vs ++ v ∷ [])) whole ∙ get_last vs v

pub new_others : {V : Type 0} (names : List (List ℕ)) (vs : List V) (y : List ℕ) (v : V) → length names ≡ length vs → (q : List ℕ) → q ≢ y →
    value_at (names ++ y ∷ []) (vs ++ v ∷ []) q ≡ value_at names vs q
new_others names vs y v whole q apart = by (position_of names q) refl
  where
    by : (at : Option ℕ) → position_of names q ≡ at → value_at (names ++ y ∷ []) (vs ++ v ∷ []) q ≡ value_at names vs q
    by None e = value_by (names ++ y ∷ []) (vs ++ v ∷ []) q None (stays_out names y q apart e) ∙ sym (value_by names vs q None e)
    by (Some n) e =
        let within : n < length names = slice_get_within names n q (is_found_there names q n e) in
        value_by (names ++ y ∷ []) (vs ++ v ∷ []) q (Some n) (stays names y q n e) ∙ get_push vs v n (omega arith) ∙ sym (value_by names vs q (Some n) e)

pub old_there : {V : Type 0} (names : List (List ℕ)) (vs : List V) (q : List ℕ) (n : ℕ) (v : V) → length names ≡ length vs → position_of names q ≡ Some n →
    value_at names (set vs n v) q ≡ Some v
old_there names vs q n v whole e =
    let within : n < length names = slice_get_within names n q (is_found_there names q n e) in
    value_by names (set vs n v) q (Some n) e ∙ get_set vs n v (omega arith)

pub old_others : {V : Type 0} (names : List (List ℕ)) (vs : List V) (y : List ℕ) (n : ℕ) (v : V) → position_of names y ≡ Some n → (q : List ℕ) → q ≢ y →
    value_at names (set vs n v) q ≡ value_at names vs q
old_others names vs y n v at_y q apart = by (position_of names q) refl
  where
    by : (at : Option ℕ) → position_of names q ≡ at → value_at names (set vs n v) q ≡ value_at names vs q
    by None e = value_by names (set vs n v) q None e ∙ sym (value_by names vs q None e)
    by (Some m) e =
        let other : m ≢ n = λ same. apart (one_name m same e) in
        value_by names (set vs n v) q (Some m) e ∙ get_set_other vs n m v other ∙ sym (value_by names vs q (Some m) e)
      where
        one_name : (m : ℕ) → m ≡ n → position_of names q ≡ Some m → q ≡ y
        one_name m same e =
            let first : slice_get names m ≡ Some q = is_found_there names q m e in
            let second : slice_get names n ≡ Some y = is_found_there names y n at_y in
            cc

-- Names at one place are equal.
pub one_at_place : (names : List (List ℕ)) (a b : List ℕ) (n : ℕ) → position_of names a ≡ Some n → position_of names b ≡ Some n → a ≡ b
one_at_place names a b n at_a at_b =
    let first : slice_get names n ≡ Some a = is_found_there names a n at_a in
    let second : slice_get names n ≡ Some b = is_found_there names b n at_b in
    cc

-- A name that is appended moves no other name.
unmoved : (names : List (List ℕ)) (y q : List ℕ) → (q ≡ y → position_of names q ≡ None → ⊥) → position_of (names ++ y ∷ []) q ≡ position_of names q
unmoved names y q known = by (position_of names q) refl
  where
    by : (at : Option ℕ) → position_of names q ≡ at → position_of (names ++ y ∷ []) q ≡ position_of names q
    by None e = stays_out names y q (λ same. known same e) e ∙ sym e
    by (Some n) e = stays names y q n e ∙ sym e

-- A map of places after a name is appended to the list.
pub numbers_put : (old new : NameMap ℕ) (number : ℕ) (name : List ℕ) → value_of_name old name ≡ None → SetsValue old new name number → NumbersOneMore old new number name
numbers_put old new number name absent puts = record { whole = puts.whole; numbers = λ names many numbered q. by names many numbered q (bytes_eq q name) refl }
  where
    by : (names : List (List ℕ)) → number ≡ length names → NumbersNames names old → (q : List ℕ) (t : Bool) → bytes_eq q name ≡ t →
        value_of_name new q ≡ position_of (names ++ name ∷ []) q
    by names many numbered q true e =
        let same : q ≡ name = (bytes_eq-Decides q name).0 e in
        let nowhere : position_of names name ≡ None = sym (numbered name) ∙ absent in
        ap (value_of_name new) same ∙ puts.there ∙ ap Some many ∙ sym (goes_last names name nowhere) ∙ ap (position_of (names ++ name ∷ [])) (sym same)
    by names many numbered q false e =
        let apart : q ≢ name = λ same. false≢true (sym e ∙ (bytes_eq-Decides q name).1 same) in
        puts.others q apart ∙ numbered q ∙ sym (unmoved names name q (λ same _. apart same))

pub numbers_kept : (old : NameMap ℕ) (number n : ℕ) (name : List ℕ) → HasAllValues old → value_of_name old name ≡ Some n → NumbersOneMore old old number name
numbers_kept old number n name whole known = record {
  whole = whole;
  numbers = λ names many numbered q. numbered q ∙ sym (unmoved names name q (λ same none. not_both (sym (numbered q ∙ none) ∙ ap (value_of_name old) same ∙ known)));
}
  where
    not_both : None ≡ Some n → ⊥
    not_both e = cc
