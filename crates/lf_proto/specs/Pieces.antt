-- The pieces of a stream between its line feeds.
use Rattle.std.specs.Prelude.{ℕ, List, [], ◌∷◌, ◌++◌, Option, Some, None}
use Rattle.std.specs.List.{slice_split}
use Rattle.lf_proto.specs.Stream.{is_end_of_line, lines_in}

-- the pieces between line feeds
abbrev pub between_line_feeds : List ℕ → List (List ℕ)
between_line_feeds bytes = slice_split is_end_of_line bytes

-- the pieces, with more bytes in front of the first
abbrev pub with_front : List ℕ → List (List ℕ) → List (List ℕ)
with_front run [] = run ∷ []
with_front run (p ∷ parts) = (run ++ p) ∷ parts

-- the lines of the kept bytes and the pieces after them; the kept bytes are None if they exceed the
-- limit
abbrev pub lines_from : Option (List ℕ) → List (List ℕ) → List (Option (List ℕ))
lines_from (Some held) parts = lines_in (with_front held parts)
lines_from None [] = None ∷ []
lines_from None (p ∷ []) = None ∷ []
lines_from None (p ∷ q ∷ parts) = None ∷ lines_in (q ∷ parts)
