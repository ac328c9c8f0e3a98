use Rattle.std.proofs.Common.{◌≡◌, ◌≢◌, List, AllPairs, map, take, drop}
use Rattle.lf_names.specs.Labels.{Labelled}
use Rattle.lf_names.specs.NameParts.{StoresNames, stored_bytes}
use Rattle.lf_names.proofs.partitioned.table_of.Given as goal

abbrev pub invariant-loop-position : goal.invariant-loop-position
invariant-loop-position l = record {
  left : (own : List Labelled) → StoresNames l.names own → l.remaining ≡ stored_bytes (drop l.position own);
  known : (own : List Labelled) → StoresNames l.names own → l.table ≡ map (λ n. n.name) (take l.position own);
  differ : AllPairs (λ name later. name ≢ later) l.table;
}
