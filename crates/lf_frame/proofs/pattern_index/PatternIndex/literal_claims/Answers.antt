use Rattle.std.proofs.lemmas.List.Sorted.{IsPermutation-sym}
use Rattle.lf_names.proofs.Shuffled.{differ_shuffled, matches_shuffled}
use Rattle.lf_frame.specs.ComponentNames.{numbered_names}
use Rattle.lf_frame.proofs.Numbered.{none_differ, differ_breaks_none}
use Rattle.lf_frame.proofs.Claimed.{reported_by_matches}
use Rattle.lf_frame.proofs.pattern_index.PatternIndex.literal_claims.Goals as goal

pub returns-in_default-clause-reported : goal.returns-in_default-clause-reported
returns-in_default-clause-reported c = λ none.
    let components = c.args.components.now in
    let names = c.in_ok-names.ensures {u = tt} in
    (rw c.in_default.is at c.in_ok-matches.ensures.none) (differ_shuffled (numbered_names components) c.in_ok-names.names names (none_differ components none))

pub returns-clause-reported : goal.returns-clause-reported
returns-clause-reported c =
    let components = c.args.components.now in
    let names = c.in_ok-names.ensures {u = tt} in
    let literals = c.args.self.now.literals in
    let differ = rw c.in-Some.is at c.in_ok-matches.ensures.differ in
    let matches = rw c.in-Some.is at c.in_ok-matches.ensures.matches in (
      differ_breaks_none components (differ_shuffled c.in_ok-names.names (numbered_names components)
          (IsPermutation-sym (numbered_names components) c.in_ok-names.names names) differ),
      reported_by_matches components literals c.in-Some.matches.items c.in_ok-claims_by_match.field-0
          (matches_shuffled (numbered_names components) c.in_ok-names.names literals c.in-Some.matches.items names matches)
          (rw c.deref.ensures.value at c.in_ok-claims_by_match.ensures.reported),
    )
