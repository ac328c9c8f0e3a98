-- Elements of lists by their positions, and lists under a map.
use Rattle.std.proofs.Common.{◌≡◌, ℕ, zero, suc, ◌<◌, List, [], ◌∷◌, ◌++◌, length, map, get_or, set, Some, refl, ap, arith}
use Rattle.std.specs.Prelude.{slice_get}

-- An element of a mapped list.
pub map_at : {X Y : Type 0} (f : X → Y) (xs : List X) (i : ℕ) (d : X) → get_or (map f xs) i (f d) ≡ f (get_or xs i d)
map_at f [] i d = refl
map_at f (x ∷ xs) zero d = refl
map_at f (x ∷ xs) (suc i) d = map_at f xs i d

pub map_within : {X Y : Type 0} (f : X → Y) (xs : List X) (i : ℕ) (d : Y) (e : X) → i < length xs → get_or (map f xs) i d ≡ f (get_or xs i e)
map_within f [] i d e within = absurd (omega (arith, within))
map_within f (x ∷ xs) zero d e within = refl
map_within f (x ∷ xs) (suc i) d e within = map_within f xs i d e (omega (arith, within))

-- A change of one element that the map hides.
pub same_seen : {X Y : Type 0} (f : X → Y) (xs : List X) (i : ℕ) (d x : X) → f x ≡ f (get_or xs i d) → map f (set xs i x) ≡ map f xs
same_seen f [] i d x e = refl
same_seen {X} {Y} f (a ∷ rest) zero d x e = ap (λ (b : Y). b ∷ map f rest) e
same_seen {X} {Y} f (a ∷ rest) (suc i) d x e = ap (λ (bs : List Y). f a ∷ bs) (same_seen f rest i d x e)

-- A change of one element that the map shows as another change.
pub change_seen : {X Y : Type 0} (f : X → Y) (h : Y → Y) (xs : List X) (i : ℕ) (d x : X) → f x ≡ h (f (get_or xs i d))
    → map f (set xs i x) ≡ set (map f xs) i (h (get_or (map f xs) i (f d)))
change_seen f h [] i d x e = refl
change_seen {X} {Y} f h (a ∷ rest) zero d x e = ap (λ (b : Y). b ∷ map f rest) e
change_seen {X} {Y} f h (a ∷ rest) (suc i) d x e = ap (λ (bs : List Y). f a ∷ bs) (change_seen f h rest i d x e)

-- ---- one more element

pub get_kept : {X : Type 0} (xs : List X) (y : X) (k : ℕ) (x : X) → slice_get xs k ≡ Some x → slice_get (xs ++ y ∷ []) k ≡ Some x
get_kept [] y k x e = cc
get_kept (a ∷ rest) y zero x e = e
get_kept (a ∷ rest) y (suc k) x e = get_kept rest y k x e

pub get_last : {X : Type 0} (xs : List X) (y : X) → slice_get (xs ++ y ∷ []) (length xs) ≡ Some y
get_last [] y = refl
get_last (a ∷ rest) y = get_last rest y

-- The element is an earlier one or the last one.
pub data IsOneOf {X : Type 0} (xs : List X) (y : X) (k : ℕ) (x : X) : Type 0 where
  Earlier : slice_get xs k ≡ Some x → IsOneOf xs y k x
  Last : k ≡ length xs → y ≡ x → IsOneOf xs y k x

later_one : {X : Type 0} (a : X) (rest : List X) (y : X) (k : ℕ) (x : X) → IsOneOf rest y k x → IsOneOf (a ∷ rest) y (suc k) x
later_one a rest y k x (Earlier e) = Earlier e
later_one a rest y k x (Last at same) = Last (ap suc at) same

pub one_of : {X : Type 0} (xs : List X) (y : X) (k : ℕ) (x : X) → slice_get (xs ++ y ∷ []) k ≡ Some x → IsOneOf xs y k x
one_of [] y zero x e = Last refl (cc)
one_of [] y (suc k) x e = absurd (cc)
one_of (a ∷ rest) y zero x e = Earlier e
one_of (a ∷ rest) y (suc k) x e = later_one a rest y k x (one_of rest y k x e)
