-- The lines of stored bytes, in which each line is followed by a line feed.
use Rattle.std.specs.Prelude.{ℕ, cond, List, [], ◌∷◌, ◌++◌}
use Rattle.lf_hub_clients.specs.Lines.{is_line_feed}

-- The lines that end in the bytes. The first of them begins with `begun`.
abbrev pub stored_lines : List ℕ → List ℕ → List (List ℕ)
stored_lines begun [] = []
stored_lines begun (b ∷ bs) = cond (is_line_feed b) (begun ∷ stored_lines [] bs) (stored_lines (begun ++ b ∷ []) bs)

-- The bytes after the last line feed.
abbrev pub stored_begun : List ℕ → List ℕ → List ℕ
stored_begun begun [] = begun
stored_begun begun (b ∷ bs) = cond (is_line_feed b) (stored_begun [] bs) (stored_begun (begun ++ b ∷ []) bs)
