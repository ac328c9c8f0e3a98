-- Lists that grow by one.
use Rattle.std.proofs.Common.{◌≡◌, ℕ, zero, suc, ◌+◌, ◌<◌, List, [], ◌∷◌, ◌++◌, length, Some, refl, arith}
use Rattle.std.specs.Prelude.{slice_get}

pub last_is : {X : Type 0} (xs : List X) (x : X) → slice_get (xs ++ x ∷ []) (length xs) ≡ Some x
last_is [] x = refl
last_is (y ∷ ys) x = last_is ys x

pub before_last : {X : Type 0} (xs : List X) (x : X) (i : ℕ) → i < length xs → slice_get (xs ++ x ∷ []) i ≡ slice_get xs i
before_last [] x i within = absurd (omega (arith, within))
before_last (y ∷ ys) x zero within = refl
before_last (y ∷ ys) x (suc i) within = before_last ys x i (omega (arith, within))

pub one_longer : {X : Type 0} (xs : List X) (x : X) → length (xs ++ x ∷ []) ≡ length xs + 1
one_longer [] x = refl
one_longer (y ∷ ys) x = omega (arith, one_longer ys x)
