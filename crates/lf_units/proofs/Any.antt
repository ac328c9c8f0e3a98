-- Elements of a list that have a property.
use Rattle.std.proofs.Common.{◌≡◌, ℕ, zero, suc, ◌<◌, ◌⊎◌, inl, inr, Bool, true, false, cond, List, [], ◌∷◌, ◌++◌, length, map, get_or, refl, sym, ◌∙◌, ap}
use Rattle.std.proofs.Common.{subst, arith}
use Rattle.std.specs.Prelude.{Any, Contains, filter}
use Rattle.std.proofs.lemmas.Bool.{false≢true}
use Rattle.std.proofs.lemmas.List.{get_or-map, length-map, get_or_default}

pub any_first : {A : Type 0} (P : A → Type 0) (x : A) (xs : List A) → P x → Any P (x ∷ xs)
any_first P x xs p = (0, x, omega arith, refl, p)

pub any_later : {A : Type 0} (P : A → Type 0) (x : A) (xs : List A) → Any P xs → Any P (x ∷ xs)
any_later P x xs (k, y, within, is, p) = (suc k, y, omega arith, is, p)

pub any_cases : {A : Type 0} (P : A → Type 0) (x : A) (xs : List A) → Any P (x ∷ xs) → P x ⊎ Any P xs
any_cases P x xs (zero, y, within, is, p) = inl (subst P (sym is) p)
any_cases P x xs (suc k, y, within, is, p) = inr (k, y, omega arith, is, p)

pub none_of_nothing : {A : Type 0} (P : A → Type 0) → Any P [] → ⊥
none_of_nothing P h = omega (arith, h.2)

-- An entry with a name, and the name among all names.
pub name_of_any : {A : Type 0} (name : A → List ℕ) (xs : List A) (n : List ℕ) → Any (λ x. name x ≡ n) xs → Contains (map name xs) n
name_of_any name xs n (k, x, within, is, same) =
    let there : k < length (map name xs) = omega (arith, length-map xs name) in
    (k, there, get_or-map name xs k x n within ∙ ap name is ∙ same)

pub any_of_name : {A : Type 0} (name : A → List ℕ) (xs : List A) (n : List ℕ) → Contains (map name xs) n → Any (λ x. name x ≡ n) xs
any_of_name name [] n (k, within, is) = absurd (omega arith)
any_of_name name (x ∷ xs) n (zero, within, is) = any_first (λ y. name y ≡ n) x xs is
any_of_name name (x ∷ xs) n (suc k, within, is) = any_later (λ y. name y ≡ n) x xs (any_of_name name xs n (k, omega arith, is))

-- An entry of a concatenated list.
pub any_parts : {A : Type 0} (P : A → Type 0) (xs ys : List A) → Any P (xs ++ ys) → Any P xs ⊎ Any P ys
any_parts P [] ys h = inr h
any_parts P (x ∷ xs) ys h = elim (any_cases P x (xs ++ ys) h) [
  | inl own ↦ inl (any_first P x xs own)
  | inr rest ↦ elim (any_parts P xs ys rest) [ inl early ↦ inl (any_later P x xs early) | inr late ↦ inr late ]
]

pub any_left : {A : Type 0} (P : A → Type 0) (xs ys : List A) → Any P xs → Any P (xs ++ ys)
any_left P [] ys h = absurd (none_of_nothing P h)
any_left P (x ∷ xs) ys h = elim (any_cases P x xs h) [
  | inl own ↦ any_first P x (xs ++ ys) own
  | inr rest ↦ any_later P x (xs ++ ys) (any_left P xs ys rest)
]

pub any_right : {A : Type 0} (P : A → Type 0) (xs ys : List A) → Any P ys → Any P (xs ++ ys)
any_right P [] ys h = h
any_right P (x ∷ xs) ys h = any_later P x (xs ++ ys) (any_right P xs ys h)

pub any_one : {A : Type 0} (P : A → Type 0) (x : A) → Any P (x ∷ []) → P x
any_one P x h = elim (any_cases P x [] h) [ inl own ↦ own | inr rest ↦ absurd (none_of_nothing P rest) ]

pub any_mapped : {A B : Type 0} (f : A → B) (P : B → Type 0) (xs : List A) → Any P (map f xs) → Any (λ x. P (f x)) xs
any_mapped f P [] h = absurd (none_of_nothing P h)
any_mapped f P (x ∷ xs) h = elim (any_cases P (f x) (map f xs) h) [
  | inl own ↦ any_first (λ y. P (f y)) x xs own
  | inr rest ↦ any_later (λ y. P (f y)) x xs (any_mapped f P xs rest)
]

pub any_map : {A B : Type 0} (f : A → B) (P : B → Type 0) (xs : List A) → Any (λ x. P (f x)) xs → Any P (map f xs)
any_map f P [] h = absurd (none_of_nothing (λ x. P (f x)) h)
any_map f P (x ∷ xs) h = elim (any_cases (λ y. P (f y)) x xs h) [
  | inl own ↦ any_first P (f x) (map f xs) own
  | inr rest ↦ any_later P (f x) (map f xs) (any_map f P xs rest)
]

-- An entry that passes a test, and the list of all entries that pass it.
pub any_kept : {A : Type 0} (p : A → Bool) (P : A → Type 0) (xs : List A) → Any (λ x. (p x ≡ true) × P x) xs → Any P (filter p xs)
any_kept p P [] h = absurd (none_of_nothing (λ x. (p x ≡ true) × P x) h)
any_kept p P (x ∷ xs) h = by (p x) refl (any_cases (λ y. (p y ≡ true) × P y) x xs h) (any_kept p P xs)
  where
    by : (t : Bool) → p x ≡ t → ((p x ≡ true) × P x) ⊎ Any (λ y. (p y ≡ true) × P y) xs → (Any (λ y. (p y ≡ true) × P y) xs → Any P (filter p xs))
        → Any P (filter p (x ∷ xs))
    by true e (inl own) rest = rw e (any_first P x (filter p xs) own.1)
    by true e (inr later) rest = rw e (any_later P x (filter p xs) (rest later))
    by false e (inl own) rest = absurd (false≢true (sym e ∙ own.0))
    by false e (inr later) rest = rw e (rest later)

pub any_of_kept : {A : Type 0} (p : A → Bool) (P : A → Type 0) (xs : List A) → Any P (filter p xs) → Any (λ x. (p x ≡ true) × P x) xs
any_of_kept p P [] h = absurd (none_of_nothing P h)
any_of_kept p P (x ∷ xs) h = by (p x) refl h (any_of_kept p P xs)
  where
    by : (t : Bool) → p x ≡ t → Any P (cond (p x) (x ∷ filter p xs) (filter p xs)) → (Any P (filter p xs) → Any (λ y. (p y ≡ true) × P y) xs)
        → Any (λ y. (p y ≡ true) × P y) (x ∷ xs)
    by true e g rest = first (any_cases P x (filter p xs) (rw e at g)) rest e
      where
        first : P x ⊎ Any P (filter p xs) → (Any P (filter p xs) → Any (λ y. (p y ≡ true) × P y) xs) → p x ≡ true → Any (λ y. (p y ≡ true) × P y) (x ∷ xs)
        first (inl own) rest e = any_first (λ y. (p y ≡ true) × P y) x xs (e, own)
        first (inr later) rest e = any_later (λ y. (p y ≡ true) × P y) x xs (rest later)
    by false e g rest = any_later (λ y. (p y ≡ true) × P y) x xs (rest (rw e at g))

-- An item of a list that has the property, and its position.
pub has_item : {A : Type 0} (P : A → Type 0) (xs : List A) (x : A) → Contains xs x → P x → Any P xs
has_item P xs x there p = (there.0, x, there.1, there.2, p)

pub any_more : {A : Type 0} (P Q : A → Type 0) (xs ys : List A) → ((x : A) → Contains xs x → Contains ys x) → ((x : A) → P x → Q x) → Any P xs → Any Q ys
any_more P Q xs ys more forth h = has_item Q ys h.1 (more h.1 (h.0, h.2, h.3)) (forth h.1 h.4)

-- An element that is read at a position.
pub any_here : {A : Type 0} (P : A → Type 0) (xs : List A) (k : ℕ) (d : A) → k < length xs → P (get_or xs k d) → Any P xs
any_here P xs k d within p = (k, get_or xs k d, within, get_or_default xs k (get_or xs k d) d within, p)
