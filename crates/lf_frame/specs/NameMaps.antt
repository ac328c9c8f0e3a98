-- The values of a map from names.
use Rattle.std.specs.Prelude.{◌≡◌, ◌≢◌, ℕ, List, length, Option, Some, slice_get}
use Rattle.std.specs.Option.{option_and_then}
use Rattle.lf_names.specs.Names.{position_of}
use Rattle.lf_frame.specs.declared.name_map.NameMap.{NameMap}

-- The value of a name, if it has one.
abbrev pub value_of_name : {V : Type 0} → NameMap V → List ℕ → Option V
value_of_name m name = option_and_then (slice_get m.values.items) (position_of m.names name)

-- Holds if each name has a value.
abbrev pub HasAllValues : {V : Type 0} → NameMap V → Type 0
HasAllValues m = length m.names ≡ length m.values.items

-- Holds if the name has this value, and every other name keeps its own.
pub record SetsValue {V : Type 0} (old new : NameMap V) (name : List ℕ) (value : V) : Type 0 where
  pub whole : HasAllValues new
  pub there : value_of_name new name ≡ Some value
  pub others : (other : List ℕ) → other ≢ name → value_of_name new other ≡ value_of_name old other
