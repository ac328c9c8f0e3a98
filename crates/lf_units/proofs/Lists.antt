-- A list whose parts are sorted, and the rest of a list.
use Rattle.std.proofs.Common.{◌≡◌, ℕ, ◌-◌, List, ◌++◌, length, take, drop, sym, subst, arith, length-drop}
use Rattle.std.specs.Prelude.{IsPermutation}
use Rattle.std.proofs.lemmas.List.{take_all}
use Rattle.std.proofs.lemmas.List.Sorted.{IsPermutation-append}

-- Permutations of two parts of a list permute the whole.
pub permuted_in_parts : {X : Type 0} (xs front back front_moved back_moved : List X) → xs ≡ front ++ back → IsPermutation front front_moved →
    IsPermutation back back_moved → IsPermutation xs (front_moved ++ back_moved)
permuted_in_parts xs front back front_moved back_moved parts first second =
    subst (λ ys. IsPermutation ys (front_moved ++ back_moved)) (sym parts) (IsPermutation-append front front_moved back back_moved first second)

-- The elements from a position on, as a slice of the list. Proofs of other crates cite this.
pub rest_from : {X : Type 0} (xs : List X) (n : ℕ) → take (length xs - n) (drop n xs) ≡ drop n xs
rest_from xs n = take_all (length xs - n) (drop n xs) (omega (arith, length-drop n xs))
