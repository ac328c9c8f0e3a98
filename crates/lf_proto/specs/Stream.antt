-- The lines of a stream of bytes.
use Rattle.std.specs.Prelude.{ℕ, Bool, nat_le, ◌==◌, ◌-◌, cond, List, [], ◌∷◌, length, take, Option, Some, None, slice_index}
use Rattle.std.specs.List.{slice_split}

-- the most bytes of a line, including its carriage return
abbrev pub line_limit : ℕ
line_limit = 4096

abbrev pub is_end_of_line : ℕ → Bool
is_end_of_line b = b == 10

-- a line without one carriage return at its end
abbrev pub without_return : List ℕ → List ℕ
without_return bytes = cond (slice_index bytes (length bytes - 1) == 13) (take (length bytes - 1) bytes) bytes

-- the bytes, or None if they exceed the limit
abbrev pub within_limit : List ℕ → Option (List ℕ)
within_limit bytes = cond (nat_le (length bytes) line_limit) (Some bytes) None

-- the line of a piece that a line feed ends, or None if it exceeds the limit
abbrev pub ended_line : List ℕ → Option (List ℕ)
ended_line bytes = cond (nat_le (length bytes) line_limit) (Some (without_return bytes)) None

-- the line of the last piece, if it has a byte
abbrev pub last_line : List ℕ → List (Option (List ℕ))
last_line [] = []
last_line bytes = within_limit bytes ∷ []

-- the lines of the pieces between line feeds
abbrev pub lines_in : List (List ℕ) → List (Option (List ℕ))
lines_in [] = []
lines_in (last ∷ []) = last_line last
lines_in (piece ∷ next ∷ pieces) = ended_line piece ∷ lines_in (next ∷ pieces)

-- the lines of a stream, None for each that exceeds the limit
abbrev pub lines_of : List ℕ → List (Option (List ℕ))
lines_of bytes = lines_in (slice_split is_end_of_line bytes)
