use Rattle.std.proofs.Common.{◌≡◌, ◌++◌, List, map, drop}
use Rattle.lf_names.specs.Labels.{Labelled, matches_of}
use Rattle.lf_names.specs.NameParts.{StoresNames, stored_bytes}
use Rattle.lf_names.proofs.partitioned.match_names.Given as goal

abbrev pub invariant-loop-position : goal.invariant-loop-position
invariant-loop-position l = record {
  left : (questions : List Labelled) → StoresNames l.requested questions → l.remaining ≡ stored_bytes (drop l.position questions);
  matched : (own questions : List Labelled) → StoresNames l.names own → l.table ≡ map (λ n. n.name) own → StoresNames l.requested questions →
      l.matches.items ++ matches_of own (drop l.position questions) ≡ l.fn.matches.items ++ matches_of own questions;
}
