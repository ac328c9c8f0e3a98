-- The clause that is written for a location, compared with bytes part by part.
use Rattle.std.specs.Prelude.{◌≡◌, ◌++◌, ℕ, List, Option, Some, None, false, bytes_eq, codes}
use Rattle.std.specs.Fmt.{signed_decimal}
use denote.Ref.{Bor}
use Rattle.lf_def.specs.declared.components.Location.{Location}

-- Holds if this is what is left of the bytes after the front of a text. The rest of the text
-- remains to be compared with it. `None` if the bytes begin with something else.
abbrev pub IsRestOfText : List ℕ → (List ℕ → List ℕ) → Option (Bor (List ℕ)) → Type 0
IsRestOfText bytes text (Some left) = (rest : List ℕ) → bytes_eq bytes (text rest) ≡ bytes_eq left.now rest
IsRestOfText bytes text None = (rest : List ℕ) → bytes_eq bytes (text rest) ≡ false

-- + PLACED ( x y ), a space, and the rest.
abbrev pub before_orient : Location → List ℕ → List ℕ
before_orient at rest =
    codes "+ PLACED ( " ++ (signed_decimal at.x ++ (codes " " ++ (signed_decimal at.y ++ (codes " ) " ++ rest))))
