-- Adding a name to a table.
use Rattle.std.specs.Prelude.{◌≡◌, ℕ, List, [], ◌∷◌, ◌++◌, length, Some, None}
use Rattle.lf_names.specs.Names.{position_of}
use Rattle.lf_names.specs.declared.table.Added.{Added}
use Rattle.lf_names.specs.declared.table.Added.TheVariants.{New, Present}

-- Holds if a new name becomes the last one, or if a name that the list has keeps its position and
-- nothing changes.
abbrev pub AddsName : List (List ℕ) → List ℕ → Added → List (List ℕ) → Type 0
AddsName old name (New at) new = (position_of old name ≡ None) × (at ≡ length old) × (new ≡ old ++ name ∷ [])
AddsName old name (Present at) new = (position_of old name ≡ Some at) × (new ≡ old)
