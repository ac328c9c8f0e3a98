-- The first entry with each name, in a list of named entries.
use Rattle.std.specs.Prelude.{◌≡◌, ℕ, Bool, List, length, Option, Some, None, slice_get, if◌then◌else◌}
use Rattle.std.specs.List.{position_from}
use Rattle.std.specs.Option.{option_and_then, option_or}
use Rattle.std.specs.Str.{bytes_eq}
use Rattle.lf_names.specs.Names.{position_of}
use Rattle.lf_wire_nets.specs.declared.first_names.FirstNames.{FirstNames}

-- The position that is stored for the name, if there is one.
abbrev pub first_position : FirstNames → List ℕ → Option ℕ
first_position t name = option_and_then (slice_get t.positions.items) (position_of t.names name)

-- Holds if each name has a position.
abbrev pub HasAllPositions : FirstNames → Type 0
HasAllPositions t = length t.names ≡ length t.positions.items

-- Holds if an entry with this name at this position is added, after all entries so far.
pub record AddsEntry (old new : FirstNames) (name : List ℕ) (at : ℕ) : Type 0 where
  pub whole : HasAllPositions new
  pub positions : (other : List ℕ) → first_position new other
      ≡ option_or (first_position old other) (if bytes_eq other name then Some at else None)

-- Holds if each name has the position of the first entry that has it.
pub record FindsFirst {X : Type 0} (has_name : List ℕ → X → Bool) (entries : List X) (t : FirstNames) : Type 0 where
  pub whole : HasAllPositions t
  pub positions : (name : List ℕ) → first_position t name ≡ position_from (has_name name) 0 entries
