-- Names of a design by their numbers.
use Rattle.std.proofs.Common.{◌≡◌, ℕ, zero, suc, List, [], ◌∷◌, Option, None, Some, refl}
use Rattle.std.specs.Prelude.{option_map, slice_get, slice_index_or}

-- there is no element, so the default is taken
pub none_at : {X : Type 0} (xs : List X) (k : ℕ) (d : X) → slice_get xs k ≡ None → slice_index_or xs k d ≡ d
none_at [] k d none = refl
none_at (x ∷ xs) zero d none = absurd cc
none_at (x ∷ xs) (suc k) d none = none_at xs k d none

pub none_mapped : {X Y : Type 0} (f : X → Y) (o : Option X) → option_map f o ≡ None → o ≡ None
none_mapped f None none = refl
none_mapped f (Some x) none = absurd cc
