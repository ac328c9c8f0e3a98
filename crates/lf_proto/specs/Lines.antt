-- The bytes of a request line, and its fields.
use Rattle.std.specs.Prelude.{◌≡◌, ℕ, ◌<◌, Bool, true, nat_lt, ◌==◌, ◌||◌, ◌&&◌, List, length, filter}
use Rattle.std.specs.List.{slice_split, list_all}

-- a space or a tab
abbrev pub is_blank : ℕ → Bool
is_blank b = b == 32 || b == 9

-- a byte that may occur in a line: a blank or a visible character
abbrev pub is_line_byte : ℕ → Bool
is_line_byte b = is_blank b || (nat_lt 32 b && nat_lt b 127)

-- the runs of bytes between blanks
abbrev pub fields : List ℕ → List (List ℕ)
fields line = filter (λ field. nat_lt 0 (length field)) (slice_split is_blank line)

-- a visible byte
abbrev pub is_visible : ℕ → Bool
is_visible b = nat_lt 32 b && nat_lt b 127

-- a name: one visible byte or more
pub record IsLineName (name : List ℕ) : Type 0 where
  pub some : 0 < length name
  pub visible : list_all is_visible name ≡ true
