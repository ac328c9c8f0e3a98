-- The occurrences of a piece in a name.
use Rattle.std.specs.Prelude.{◌≡◌, ℕ, List, ◌++◌}

-- Holds if `rest` follows the first occurrence of the piece in the name: what follows any other
-- occurrence is an end of `rest`.
pub record IsAfterFirst (name piece rest : List ℕ) : Type 0 where
  pub found : (before : List ℕ) × (name ≡ before ++ (piece ++ rest))
  pub first : (before later : List ℕ) → name ≡ before ++ (piece ++ later) → (more : List ℕ) × (rest ≡ more ++ later)
