-- A list of distinct names, in the order in which they were first seen.
use Rattle.std.specs.Prelude.{ℕ, List, Option, position}
use Rattle.std.specs.Str.{bytes_eq}

-- The position of the name in the list, if the list has it.
abbrev pub position_of : List (List ℕ) → List ℕ → Option ℕ
position_of names name = position (bytes_eq name) names
