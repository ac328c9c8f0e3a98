-- Lists: what a filter keeps of them, and parts of a list.
use Rattle.std.proofs.Common.{◌≡◌, ◌⊎◌, inl, inr, ℕ, zero, suc, ◌+◌, ◌<◌, Bool, true, false, cond, List, [], ◌∷◌, ◌++◌, length, get_or}
use Rattle.std.proofs.Common.{take, map, refl, sym, ap, subst, ◌∙◌, arith}
use Rattle.std.specs.Prelude.{All, AllPairs, Any, Contains, Some, filter, slice_get}
use Rattle.std.proofs.lemmas.List.{take_more}
use Rattle.std.proofs.lemmas.List.Elements.{All-append, All-filter}
use Rattle.lf_units.proofs.Anys.{any_cases, any_head, any_left, any_nil, any_split, any_tail}

-- what a filter keeps of a list it contains
pub contains_filter : {X : Type 0} (p : X → Bool) (xs : List X) (x : X) → Contains xs x → p x ≡ true → Contains (filter p xs) x
contains_filter p [] x (k, within, is) t = absurd (omega (arith, within))
contains_filter {X} p (y ∷ ys) x (zero, within, is) t =
    let e : p y ≡ true = ap p is ∙ t in
    let there : Contains (y ∷ filter p ys) x = (0, omega arith, is) in
    subst (λ (b : Bool). Contains (cond b (y ∷ filter p ys) (filter p ys)) x) (sym e) there
contains_filter {X} p (y ∷ ys) x (suc k, within, is) t = both (p y) (contains_filter p ys x (k, omega (arith, within), is) t)
  where
    both : (b : Bool) → Contains (filter p ys) x → Contains (cond b (y ∷ filter p ys) (filter p ys)) x
    both true rest = (suc rest.0, (let h = rest.1 in omega (arith, h)), rest.2)
    both false rest = rest

-- pairs of a list in order
pairs_tail : {X : Type 0} (R : X → X → Type 0) (x : X) (xs : List X) → AllPairs R (x ∷ xs) → AllPairs R xs
pairs_tail R x xs r i j d less within = r (suc i) (suc j) d (omega (arith, less)) (omega (arith, within))

pairs_head : {X : Type 0} (R : X → X → Type 0) (x : X) (xs : List X) → AllPairs R (x ∷ xs) → All (R x) xs
pairs_head R x xs r k d within = r 0 (suc k) d (omega arith) (omega (arith, within))

pub pairs_cons : {X : Type 0} (R : X → X → Type 0) (x : X) (xs : List X) → All (R x) xs → AllPairs R xs → AllPairs R (x ∷ xs)
pairs_cons R x xs all r zero zero d less within = absurd (omega (arith, less))
pairs_cons R x xs all r zero (suc j) d less within = all j d (omega (arith, within))
pairs_cons R x xs all r (suc i) zero d less within = absurd (omega (arith, less))
pairs_cons R x xs all r (suc i) (suc j) d less within = r i j d (omega (arith, less)) (omega (arith, within))

pub pairs_filter : {X : Type 0} (R : X → X → Type 0) (p : X → Bool) (xs : List X) → AllPairs R xs → AllPairs R (filter p xs)
pairs_filter R p [] r = r
pairs_filter {X} R p (x ∷ xs) r = both (p x) (pairs_filter R p xs (pairs_tail R x xs r))
  where
    both : (b : Bool) → AllPairs R (filter p xs) → AllPairs R (cond b (x ∷ filter p xs) (filter p xs))
    both true rest = pairs_cons R x (filter p xs) (All-filter p (R x) xs (pairs_head R x xs r)) rest
    both false rest = rest

-- one more element of a list
pub any_more : {X : Type 0} (P : X → Type 0) (xs : List X) (i : ℕ) (x : X) → i < length xs → x ≡ get_or xs i x → Any P (take i xs) ⊎ P x →
    Any P (take (i + 1) xs)
any_more P xs i x within is (inl before) = subst (Any P) (sym (take_more xs i x within)) (any_left P (take i xs) (get_or xs i x ∷ []) before)
any_more {X} P xs i x within is (inr here) =
    subst (Any P) (sym (take_more xs i x within)) (any_last P (take i xs) (get_or xs i x) (subst P is here))
  where
    any_last : (Q : X → Type 0) (ys : List X) (y : X) → Q y → Any Q (ys ++ y ∷ [])
    any_last Q [] y q = any_head Q y [] q
    any_last Q (z ∷ zs) y q = let r = any_last Q zs y q in (suc r.0, r.1, (let h = r.2 in omega (arith, h)), r.3, r.4)

pub any_less : {X : Type 0} (P : X → Type 0) (xs : List X) (i : ℕ) (x : X) → i < length xs → x ≡ get_or xs i x → Any P (take (i + 1) xs) →
    Any P (take i xs) ⊎ P x
any_less {X} P xs i x within is a = elim (any_split P (take i xs) (get_or xs i x ∷ []) (subst (Any P) (take_more xs i x within) a)) [
  | inl before ↦ inl before
  | inr last ↦ inr (subst P (sym is) (one (get_or xs i x) last))
]
  where
    one : (y : X) → Any P (y ∷ []) → P y
    one y (zero, z, below, same, q) = subst P (sym same) q
    one y (suc k, z, below, same, q) = absurd (omega (arith, below))

pub pairs_append : {X : Type 0} (R : X → X → Type 0) (xs ys : List X) → All (λ x. All (R x) ys) xs → AllPairs R xs → AllPairs R ys → AllPairs R (xs ++ ys)
pairs_append R [] ys cross first second = second
pairs_append R (x ∷ xs) ys cross first second =
    pairs_cons R x (xs ++ ys) (All-append (R x) xs ys (pairs_head R x xs first) (cross 0 x (omega arith)))
    (pairs_append R xs ys (λ k d within. cross (suc k) d (omega (arith, within))) (pairs_tail R x xs first) second)

-- lists whose elements have the same image each
pub maps_alike : {X Y : Type 0} (f : X → Y) (xs ys : List X) → length xs ≡ length ys →
    ((n : ℕ) (d : X) → n < length ys → f (get_or xs n d) ≡ f (get_or ys n d)) → map f xs ≡ map f ys
maps_alike f [] [] long each = refl
maps_alike f [] (y ∷ ys) long each = absurd (omega (arith, long))
maps_alike f (x ∷ xs) [] long each = absurd (omega (arith, long))
maps_alike f (x ∷ xs) (y ∷ ys) long each =
    ap (λ z. z ∷ map f xs) (each 0 x (omega arith))
    ∙ ap (λ zs. f y ∷ zs) (maps_alike f xs ys (omega (arith, long)) (λ n d within. each (suc n) d (omega (arith, within))))

-- an element of a list of images that has a property
pub any_made : {X Y : Type 0} (P : Y → Type 0) (make : X → Y) (xs : List X) → Any (λ x. P (make x)) xs → Any P (map make xs)
any_made P make [] found = absurd (any_nil (λ x. P (make x)) found)
any_made P make (x ∷ xs) found = elim (any_cases (λ x. P (make x)) x xs found) [
  | inl here ↦ any_head P (make x) (map make xs) here
  | inr there ↦ any_tail P (make x) (map make xs) (any_made P make xs there)
]

pub any_unmade : {X Y : Type 0} (P : Y → Type 0) (make : X → Y) (xs : List X) → Any P (map make xs) → Any (λ x. P (make x)) xs
any_unmade P make [] found = absurd (any_nil P found)
any_unmade P make (x ∷ xs) found = elim (any_cases P (make x) (map make xs) found) [
  | inl here ↦ any_head (λ x. P (make x)) x xs here
  | inr there ↦ any_tail (λ x. P (make x)) x xs (any_unmade P make xs there)
]

-- the image of the element of that number
pub made_at : {X Y : Type 0} (make : X → Y) (xs : List X) (n : ℕ) (x : X) → slice_get xs n ≡ Some x → slice_get (map make xs) n ≡ Some (make x)
made_at make [] n x is = absurd cc
made_at make (y ∷ ys) zero x is = cc
made_at make (y ∷ ys) (suc n) x is = made_at make ys n x is

pub unmade_at : {X Y : Type 0} (make : X → Y) (xs : List X) (n : ℕ) (y : Y) → slice_get (map make xs) n ≡ Some y →
    (x : X) × ((slice_get xs n ≡ Some x) × (y ≡ make x))
unmade_at make [] n y is = absurd cc
unmade_at make (x ∷ xs) zero y is = (x, (refl, cc))
unmade_at make (x ∷ xs) (suc n) y is = unmade_at make xs n y is
