-- The lines that a client sends, and those that wait.
use Rattle.std.specs.Prelude.{ℕ, ◌==◌, ◌+◌, nat_lt, cond, Bool, List, [], ◌∷◌, ◌++◌, length}

abbrev pub is_line_feed : ℕ → Bool
is_line_feed b = b == 10

-- The most bytes that are kept of a line, one more than a request may have.
abbrev pub line_limit : ℕ
line_limit = 4097

-- The most bytes of a client's lines that wait.
abbrev pub waiting_limit : ℕ
waiting_limit = 65536

-- A line with one more byte. A byte above the limit is dropped.
abbrev pub longer : List ℕ → ℕ → List ℕ
longer line b = cond (nat_lt (length line) line_limit) (line ++ b ∷ []) line

-- The lines that end in the bytes, without their line feeds. The first of them begins with `begun`.
abbrev pub lines_after : List ℕ → List ℕ → List (List ℕ)
lines_after begun [] = []
lines_after begun (b ∷ bs) = cond (is_line_feed b) (begun ∷ lines_after [] bs) (lines_after (longer begun b) bs)

-- The line that has begun after them.
abbrev pub begun_after : List ℕ → List ℕ → List ℕ
begun_after begun [] = begun
begun_after begun (b ∷ bs) = cond (is_line_feed b) (begun_after [] bs) (begun_after (longer begun b) bs)

-- The lines that a client has sent with these bytes.
abbrev pub lines_sent : List ℕ → List (List ℕ)
lines_sent bytes = lines_after [] bytes

-- The line that the client has begun to send after them.
abbrev pub line_begun : List ℕ → List ℕ
line_begun bytes = begun_after [] bytes

-- The lines that wait, and the line that has begun after them.
pub record Waiting : Type 0 where
  pub lines : List (List ℕ)
  pub begun : List ℕ

-- The bytes of lines, with their line feeds.
abbrev pub lines_size : List (List ℕ) → ℕ
lines_size [] = 0
lines_size (line ∷ lines) = length line + 1 + lines_size lines

-- The bytes of all that waits.
abbrev pub waiting_size : Waiting → ℕ
waiting_size w = lines_size w.lines + length w.begun
