use Rattle.std.proofs.Common.{◌≡◌, ℕ, ◌<◌, List}
use Rattle.lf_names.specs.Labels.{Labelled, Differ}
use Rattle.lf_names.specs.NameParts.{ArePartsOf, names_of_part}
use Rattle.lf_names.proofs.PartLemmas.{matches_below}
use Rattle.lf_names.proofs.partitioned.match_parts.Given as goal

abbrev pub invariant-loop-part : goal.invariant-loop-part
invariant-loop-part l = record {
  differ : (names : List Labelled) → ArePartsOf names l.own → (k : ℕ) → k < l.part → Differ (names_of_part k names);
  matched : (names questions : List Labelled) → ArePartsOf names l.own → ArePartsOf questions l.requested → l.matches.items ≡ matches_below names questions l.part;
}
