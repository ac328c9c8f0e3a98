-- Labelled names in parts. Equal names are in one part, and each part is looked up by itself.
use Rattle.std.specs.Prelude.{◌≡◌, ℕ, ◌+◌, ◌*◌, ◌/◌, ◌%◌, ◌^◌, ◌<◌, ◌==◌, List, [], ◌∷◌, length, map, filter, fold, flat_map, take, drop, slice_index_or}
use Rattle.lf_names.specs.Labels.{Labelled}
use Rattle.lf_names.specs.declared.entries.Entry.{Entry}
use Rattle.lf_names.specs.declared.partitioned.LabelledNames.{LabelledNames}

-- The number of parts, and the factor of the hash that selects them.
abbrev pub part_count : ℕ
part_count = 256

abbrev pub factor : ℕ
factor = 2654435761

-- The hash of some bytes and one more byte.
abbrev pub hash_step : ℕ → ℕ → ℕ
hash_step hash byte = (hash * factor % 2 ^ 32 + byte) % 2 ^ 32

-- The part of a name: the highest byte of the 32 bits of its hash times the factor.
unfoldable pub part_of : List ℕ → ℕ
part_of name = fold hash_step 0 name * factor % 2 ^ 32 / 2 ^ 24

-- The bytes of these names, in order.
abbrev pub stored_bytes : List Labelled → List ℕ
stored_bytes names = flat_map (λ n. n.name) names

-- The label and length of a name.
abbrev pub entry_of : Labelled → Entry
entry_of n = record { label = n.label; len = length n.name }

-- Holds if the store has these names with their labels, in this order.
pub record StoresNames (store : LabelledNames) (names : List Labelled) : Type 0 where
  pub bytes : store.bytes.items ≡ stored_bytes names
  pub entries : store.entries ≡ map entry_of names

-- The names that belong to the part, in their order.
abbrev pub names_of_part : ℕ → List Labelled → List Labelled
names_of_part part names = filter (λ n. part_of n.name == part) names

-- The names that the entries cut from the bytes, in order.
abbrev pub cut_names : List Entry → List ℕ → List Labelled
cut_names [] bytes = []
cut_names (e ∷ entries) bytes = record {
  label = e.label;
  name = take e.len bytes;
} ∷ cut_names entries (drop e.len bytes)

-- The names of all parts, part by part.
abbrev pub names_of_parts : List LabelledNames → List Labelled
names_of_parts parts = flat_map (λ p. cut_names p.entries p.bytes.items) parts

-- Holds if the parts together have these names, each part its own.
pub record ArePartsOf (names : List Labelled) (parts : List LabelledNames) : Type 0 where
  pub many : length parts ≡ part_count
  pub each : (part : ℕ) (d : LabelledNames) → part < part_count
      → StoresNames (slice_index_or parts part d) (names_of_part part names)

-- Holds if each part has only names of its own, with all their bytes.
abbrev pub AreParted : List LabelledNames → Type 0
AreParted parts = ArePartsOf (names_of_parts parts) parts
