-- Lines by their numbers.
use Rattle.std.proofs.Common.{◌≡◌, ℕ, zero, suc, ◌+◌, List, [], ◌∷◌, length, map, None, Some, refl, ◌∙◌, ap, arith, slice_get}
use Rattle.std.specs.List.{enumerate_from}

pub count : {X Y : Type 0} (h : ℕ × X → Y) (n : ℕ) (xs : List X) → length (map h (enumerate_from n xs)) ≡ length xs
count h n [] = refl
count h n (x ∷ xs) = ap suc (count h (n + 1) xs)

-- The line of a number.
pub line : {X Y : Type 0} (h : ℕ × X → Y) (n k : ℕ) (xs : List X) (x : X) → slice_get xs k ≡ Some x → slice_get (map h (enumerate_from n xs)) k ≡ Some (h (n + k, x))
line h n k [] x at = absurd cc
line {Y = Y} h n zero (y ∷ xs) x at =
    let same : y ≡ x = cc in
    let number : n ≡ n + 0 = omega arith in
    ap (λ z. Some (h (n, z))) same ∙ ap (λ (m : ℕ). Some (h (m, x))) number
line h n (suc k) (y ∷ xs) x at =
    let number : (n + 1) + k ≡ n + suc k = omega arith in
    line h (n + 1) k xs x at ∙ ap (λ (m : ℕ). Some (h (m, x))) number

pub line_at : {X Y : Type 0} (h : ℕ × X → Y) (k : ℕ) (xs : List X) (x : X) → slice_get xs k ≡ Some x → slice_get (map h (enumerate_from 0 xs)) k ≡ Some (h (k, x))
line_at h k xs x at =
    let number : 0 + k ≡ k = omega arith in
    line h 0 k xs x at ∙ ap (λ (m : ℕ). Some (h (m, x))) number

-- There is no line of a number that is too great.
no_line : {X Y : Type 0} (h : ℕ × X → Y) (n k : ℕ) (xs : List X) → slice_get xs k ≡ None → slice_get (map h (enumerate_from n xs)) k ≡ None
no_line h n k [] at = refl
no_line h n zero (y ∷ xs) at = absurd cc
no_line h n (suc k) (y ∷ xs) at = no_line h (n + 1) k xs at

pub no_line_at : {X Y : Type 0} (h : ℕ × X → Y) (k : ℕ) (xs : List X) → slice_get xs k ≡ None → slice_get (map h (enumerate_from 0 xs)) k ≡ None
no_line_at h k xs at = no_line h 0 k xs at
