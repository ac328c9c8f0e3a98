use Rattle.std.proofs.Common.{◌≡◌, ◌<◌, ◌+◌, ◌++◌, ◌∙◌, ℕ, suc, true, ap, sym, get_or, subst, arith, below_more}
use Rattle.lf_names.specs.Labels.{matches_of, Differ}
use Rattle.lf_names.specs.NameParts.{part_count, names_of_part, StoresNames}
use Rattle.lf_names.proofs.PartLemmas.{matches_below, differ_in_part, all_differ, all_matched, are_matches}
use Rattle.lf_names.proofs.partitioned.match_parts.Goals as goal

pub loop-part-preserved : goal.loop-part-preserved
loop-part-preserved c =
    let part = c.loop-part.part in
    let own = c.index-own-part.result in
    let requested = c.in-Some.questions.now in
    let own_is : own ≡ get_or c.args.own.now part own = c.index-own-part.is in
    let requested_is : requested ≡ get_or c.args.requested.now part requested = c.in-Some.ensures.lookup.1 in
    let answers = c.in_ok-match_part.ensures in
    let yes = c.if-not-branch.false in
    record {
      differ = λ names parts.
          let below : part < part_count = omega (arith, parts.many) in
          let keeps = subst (λ s. StoresNames s (names_of_part part names)) (sym own_is) (parts.each part own below) in
          below_more (λ k. Differ (names_of_part k names)) part (c.loop-part.invariant.differ names parts)
          ((answers.differ (names_of_part part names) keeps).0 yes);
      matched = λ names questions parts requested_parts.
          let below : part < part_count = omega (arith, parts.many) in
          let keeps = subst (λ s. StoresNames s (names_of_part part names)) (sym own_is) (parts.each part own below) in
          let asks = subst (λ s. StoresNames s (names_of_part part questions)) (sym requested_is) (requested_parts.each part requested below) in
          let next : suc part ≡ part + 1 = omega arith in
          answers.matches (names_of_part part names) (names_of_part part questions) keeps asks yes
          ∙ ap (λ ms. ms ++ matches_of (names_of_part part names) (names_of_part part questions))
          (c.loop-part.invariant.matched names questions parts requested_parts)
          ∙ ap (matches_below names questions) next;
    }

pub returns-then-not-branch-clause-none : goal.returns-then-not-branch-clause-none
returns-then-not-branch-clause-none c = λ names questions parts requested_parts differ.
    let part = c.loop-part.part in
    let own = c.index-own-part.result in
    let own_is : own ≡ get_or c.args.own.now part own = c.index-own-part.is in
    let below : part < part_count = omega (arith, parts.many) in
    let keeps = subst (λ s. StoresNames s (names_of_part part names)) (sym own_is) (parts.each part own below) in
    let yes : c.in_ok-match_part.field-0 ≡ true = (c.in_ok-match_part.ensures.differ (names_of_part part names) keeps).1 (differ_in_part names part differ) in
    cc

pub returns-clause-differ : goal.returns-clause-differ
returns-clause-differ c = λ names questions parts requested_parts.
    let many : c.loop-part.part ≡ part_count = omega (arith, parts.many) in
    all_differ names (subst (λ n. (k : ℕ) → k < n → Differ (names_of_part k names)) many (c.loop-part.invariant.differ names parts))

pub returns-clause-many : goal.returns-clause-many
returns-clause-many c = λ names questions parts requested_parts.
    let many : c.loop-part.part ≡ part_count = omega (arith, parts.many) in
    all_matched names questions c.loop-part.matches.items c.loop-part.part many (c.loop-part.invariant.differ names parts)
    (c.loop-part.invariant.matched names questions parts requested_parts)

pub returns-clause-matches : goal.returns-clause-matches
returns-clause-matches c = λ names questions parts requested_parts.
    are_matches names questions c.loop-part.matches.items (returns-clause-differ c names questions parts requested_parts)
    (returns-clause-many c names questions parts requested_parts)
