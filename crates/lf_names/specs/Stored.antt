-- The bytes of a name in a table.
use Rattle.std.specs.Prelude.{ℕ, List}
use Rattle.lf_names.specs.declared.stored_name.StoredName.{StoredName}
use Rattle.lf_names.specs.declared.stored_name.StoredName.TheVariants.{Short, Long}

abbrev pub bytes_of : {A : Type 0} → StoredName A → List ℕ
bytes_of (Short name) = name.items
bytes_of (Long name) = name.items
