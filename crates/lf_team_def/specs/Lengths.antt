-- How long a text is.
use Rattle.std.specs.Prelude.{◌≡◌, ℕ, ◌^◌, ◌≤◌, List, length, Option, MatchOption}

-- Holds if the text has `count` bytes. The count is `None` if and only if they are 2^64 or more.
abbrev pub IsLengthOf : List ℕ → Option ℕ → Type 0
IsLengthOf text count = MatchOption count (2 ^ 64 ≤ length text) (λ n. n ≡ length text)
