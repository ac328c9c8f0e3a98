use Rattle.std.proofs.Common.{◌≡◌, ◌<◌, ℕ, [], length}
use Rattle.std.specs.Prelude.{slice_index_or}
use Rattle.lf_names.specs.NameParts.{StoresNames}
use Rattle.lf_names.specs.declared.partitioned.LabelledNames.{LabelledNames}
use Rattle.lf_names.proofs.partitioned.empty_parts.Given as goal

abbrev pub invariant-loop : goal.invariant-loop
invariant-loop l = record {
  many : length l.parts.items ≡ l.counter;
  each : (k : ℕ) (d : LabelledNames) → k < l.counter → StoresNames (slice_index_or l.parts.items k d) [];
}
