-- The names that a pattern matches (DEF GROUPS, whose entries name components by patterns).
use Rattle.std.specs.Prelude.{◌≡◌, ℕ, ◌==◌, Bool, false, not, ◌&&◌, if◌then◌else◌, List, [], ◌∷◌, ◌++◌, map}

-- A part of a pattern: a byte that matches itself, or a star.
pub data Part : Type 0 where
  byte : ℕ → Part
  star : Part

-- The bytes * and \.
abbrev pub asterisk : ℕ
asterisk = 42

abbrev pub backslash : ℕ
backslash = 92

-- The part of a byte. An asterisk is a star unless it is escaped: directly after a backslash. Every
-- other byte, including a backslash, matches itself.
abbrev pub part_of : Bool → ℕ → Part
part_of escaped c = if c == asterisk && not escaped then star else byte c

-- The parts of some bytes, given whether the first one is escaped.
abbrev pub parts_from : Bool → List ℕ → List Part
parts_from escaped [] = []
parts_from escaped (c ∷ rest) = part_of escaped c ∷ parts_from (c == backslash) rest

-- The parts of a pattern, one for each byte.
abbrev pub parts_of : List ℕ → List Part
parts_of pattern = parts_from false pattern

-- Holds if the parts become the name when each star is replaced by a run of bytes, perhaps empty.
abbrev pub Becomes : List Part → List ℕ → Type 0
Becomes [] name = name ≡ []
Becomes (byte c ∷ parts) name = (rest : List ℕ) × (name ≡ c ∷ rest) × Becomes parts rest
Becomes (star ∷ parts) name = (run : List ℕ) × (rest : List ℕ) × (name ≡ run ++ rest) × Becomes parts rest

-- Holds if the name matches the pattern.
abbrev pub Matches : List ℕ → List ℕ → Type 0
Matches pattern name = Becomes (parts_of pattern) name

-- Holds if the pattern has no star: each of its bytes matches itself.
abbrev pub IsLiteral : List ℕ → Type 0
IsLiteral pattern = parts_of pattern ≡ map byte pattern

-- The bytes in front of the first star, or all bytes if there is no star.
abbrev pub bytes_before_star : List Part → List ℕ
bytes_before_star [] = []
bytes_before_star (byte c ∷ parts) = c ∷ bytes_before_star parts
bytes_before_star (star ∷ parts) = []

-- The bytes of a pattern in front of its first star, or all bytes if there is no star.
abbrev pub prefix_of : List ℕ → List ℕ
prefix_of pattern = bytes_before_star (parts_of pattern)

-- The bytes after the last star. If there is no star, `seen` and then all bytes.
abbrev pub bytes_after_star : List ℕ → List Part → List ℕ
bytes_after_star seen [] = seen
bytes_after_star seen (byte c ∷ parts) = bytes_after_star (seen ++ c ∷ []) parts
bytes_after_star seen (star ∷ parts) = bytes_after_star [] parts

-- The bytes of a pattern after its last star, or all bytes if there is no star.
abbrev pub suffix_of : List ℕ → List ℕ
suffix_of pattern = bytes_after_star [] (parts_of pattern)
