-- What a contract sees of a line framer.
use Rattle.std.specs.Prelude.{ℕ, Bool, cond, List, ◌++◌, Option, Some, None}
use Rattle.lf_proto.specs.Stream.{within_limit}

-- the bytes since the last line feed, or None if they exceed the limit; and the last line
pub record Framing : Type 0 where
  pub pending : Option (List ℕ)
  pub line : List ℕ

-- the kept bytes after more bytes
abbrev pub with_more : Option (List ℕ) → List ℕ → Option (List ℕ)
with_more None bytes = None
with_more (Some held) bytes = within_limit (held ++ bytes)

-- the bytes, unless the line is too long
abbrev pub held_of : Bool → List ℕ → Option (List ℕ)
held_of too_long bytes = cond too_long None (Some bytes)
